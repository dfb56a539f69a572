use Rattle.nbd_capture.proofs.{Common.{◌∷◌, [], refl, arith, Keeps-refl, err_from_is_err_and, kept}, PieceLemmas.{bad_line, countable_end, next_line, no_line, unended_line}, ReadingStepLemmas.{reads_none, takes_none}, SizeLemmas.chunk_shrinks}
use Rattle.nbd_capture.proofs.source.Source.read_chunk.Goals as goal

pub loop-side-init : goal.loop-side-init
loop-side-init g c = reads_none _ _ (takes_none _ _ (Keeps-refl _) refl refl)

pub returns-in_err-read_line-clause-answer : goal.returns-in_err-read_line-clause-answer
returns-in_err-read_line-clause-answer g c =
    let p = err_from_is_err_and c.from_residual.result c.from_residual.ensures.1 in
    rw (p.1, p.2) (no_line _ _ _ (kept c.read_line.new.self.line c.read_line.new.bytes.items) c.in_err-read_line.field-0.0 c.loop-side.invariant c.in_err-read_line.ensures)

pub overflow_add-result : goal.overflow_add-result
overflow_add-result g c =
    let line = rw c.in-Text.is at c.in_ok-read_line.ensures in
    let within = countable_end _ _ (kept c.read_line.new.self.line c.read_line.new.bytes.items) c.is_empty.result line (c.is_empty.ensures c.read_line.new.bytes.items) c.if-is_empty.false in
    omega (arith, within, c.loop-side.self.countable)

pub returns-in-Text-2-clause-answer : goal.returns-in-Text-2-clause-answer
returns-in-Text-2-clause-answer g c =
    let line = rw c.in-Text.is at c.in_ok-read_line.ensures in
    unended_line _ _ _ (kept c.read_line.new.self.line c.read_line.new.bytes.items) c.is_empty.result c.loop-side.invariant line (c.is_empty.ensures c.read_line.new.bytes.items) c.if-is_empty.false

pub returns-in_err-side-clause-answer : goal.returns-in_err-side-clause-answer
returns-in_err-side-clause-answer g c =
    let p = err_from_is_err_and c.from_residual-in_err-side.result c.from_residual-in_err-side.ensures.1 in
    let line = rw c.in-LineFeed.is at c.in_ok-read_line.ensures in
    rw (p.1, p.2) (bad_line _ _ _ (kept c.read_line.new.self.line c.read_line.new.bytes.items) c.in_err-side.field-0.0 c.loop-side.invariant line (c.in_err-side.ensures.fault c.read_line.new.bytes.items))

pub returns-in-Some-clause-answer : goal.returns-in-Some-clause-answer
returns-in-Some-clause-answer g c =
    let line = rw c.in-LineFeed.is at c.in_ok-read_line.ensures in
    let said = rw c.in-Some.is at (c.in_ok-side.ensures.said c.read_line.new.bytes.items) in
    next_line _ _ _ (kept c.read_line.new.self.line c.read_line.new.bytes.items) (record { side = c.in-Some.side; bytes = c.read_line.new.bytes.items } ∷ []) c.loop-side.invariant line said

pub returns-in-Some-clause-shrinks : goal.returns-in-Some-clause-shrinks
returns-in-Some-clause-shrinks g c = chunk_shrinks _ _ _ (returns-in-Some-clause-answer g c)

pub loop-side-preserved : goal.loop-side-preserved
loop-side-preserved g c =
    let line = rw c.in-LineFeed.is at c.in_ok-read_line.ensures in
    let said = rw c.in_default.is at (c.in_ok-side.ensures.said c.read_line.new.bytes.items) in
    next_line _ _ _ (kept c.read_line.new.self.line c.read_line.new.bytes.items) [] c.loop-side.invariant line said
