use Rattle.nbd_capture.proofs.{Common.{◌≡◌, arith, refl, subst, sym, ◌∙◌, Seen, up_to, held_from}, ContentsTextLemmas.{bad_line, line_seen, no_rest, shorter, short_text, some_rest, told_all, whole_text}, contents.read_pieces.Goals.{then-not-is_empty-via-then-not-is_empty, then-not-is_empty-via-else-not-is_empty+then-at-size}}
use Rattle.nbd_export.specs.Extents.{byte_of, size_of}
use Rattle.nbd_export.proofs.HeldLemmas.{length-held_from}
use Rattle.nbd_capture.proofs.contents.read_pieces.Goals as goal

pub loop-line-init : goal.loop-line-init
unfolding held_from
loop-line-init c = record { size = refl; at = omega arith; count = omega arith; seen = λ whole s. s }

pub returns-in_default-2-clause-fault : goal.returns-in_default-2-clause-fault
returns-in_default-2-clause-fault c = λ whole past.
    bad_line whole c.loop-line.rest.now c.in-Some.line.now c.in-Some.after.now c.loop-line.number (up_to c.loop-line.contents c.loop-line.at) (c.loop-line.invariant.seen whole past) c.in-Some.ensures.0 c.in-Some.ensures.1
    (rw c.in_default-2.is at c.in_ok-end.ensures.taken)

pub loop-line-preserved : goal.loop-line-preserved
loop-line-preserved c = grind (arith, shorter, line_seen)

pub returns-then-not-is_empty-clause-fault : goal.returns-then-not-is_empty-clause-fault
returns-then-not-is_empty-clause-fault c = λ whole past.
    short_text whole c.loop-line.rest.now c.loop-line.number (up_to c.loop-line.contents c.loop-line.at) (c.loop-line.invariant.seen whole past) c.in_default.ensures (λ bytes e is.
    elim c.then-not-is_empty.branch [
      | then-not-is_empty-via-then-not-is_empty w ↦ some_rest c.loop-line.rest.now (sym w.if-not-is_empty.true ∙ c.is_empty.ensures) e
      | then-not-is_empty-via-else-not-is_empty+then-at-size w ↦ w.if-at-size.true (told_all c.loop-line.contents c.loop-line.at bytes is ∙ sym w.size.ensures)
    ])

pub returns-clause-read : goal.returns-clause-read
returns-clause-read c = λ whole past.
    let contents = c.loop-line.contents in
    let all : c.loop-line.at ≡ size_of contents = c.if-at-size.false ∙ c.size.ensures in
    whole_text whole c.loop-line.rest.now c.loop-line.number (held_from (byte_of contents) 0 (size_of contents)) (size_of contents)
    (subst (λ n. Seen whole c.loop-line.rest.now c.loop-line.number (up_to contents n)) all (c.loop-line.invariant.seen whole past))
    (no_rest c.loop-line.rest.now (c.if-not-is_empty.ensures)) (sym (length-held_from (byte_of contents) 0 (size_of contents)))
