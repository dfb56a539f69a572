use Rattle.nbd_capture.proofs.{Common.{sym, ◌∙◌, subst, arith, refl, FillKeeps, kept}, PieceLemmas.{some_left, takes_last, takes_part}}
use Rattle.nbd_capture.proofs.source.Source.read_piece.Goals as goal

pub returns-then-ends : goal.returns-then-ends
returns-then-ends g c =
    let rested = c.fill_buf.follows.lender-at-none in
    let filled = subst (FillKeeps _ (g.R.Read.remaining rested) (g.R.BufRead.consumable_len rested)) c.in-Ok.is c.fill_buf.follows.holds-at-none in
    let part = rw c.if-ends.true at c.part_of-read.ensures.part in
    let size = c.min.ensures in
    takes_last _ _ (g.R.Read.remaining rested) (g.R.BufRead.consumable_len rested) c.in-Ok.shown.now _ c.min.result c.part_of-read.result.1 (kept c.args.self.now.line c.args.bytes.now.items) (kept c.in_ok-self.field-0 c.with.new.bytes.items)
    (record { front = c.in-Ok.ensures.front; end = c.in-Ok.ensures.end; kept = filled.0; fits = filled.1; drops = c.consume.ensures.bytes })
    (omega (arith, size)) (omega (arith, size)) part c.in_ok-self.ensures refl refl

pub returns-else-ends : goal.returns-else-ends
returns-else-ends g c =
    let rested = c.fill_buf.follows.lender-at-none in
    let filled = subst (FillKeeps _ (g.R.Read.remaining rested) (g.R.BufRead.consumable_len rested)) c.in-Ok.is c.fill_buf.follows.holds-at-none in
    let part = rw c.if-ends.false at c.part_of-read.ensures.part in
    let size = c.min.ensures in
    takes_part _ _ (g.R.Read.remaining rested) (g.R.BufRead.consumable_len rested) c.in-Ok.shown.now _ c.min.result c.part_of-read.result.1 (kept c.args.self.now.line c.args.bytes.now.items) (kept c.in_ok-self.field-0 c.with.new.bytes.items)
    (record { front = c.in-Ok.ensures.front; end = c.in-Ok.ensures.end; kept = filled.0; fits = filled.1; drops = c.consume.ensures.bytes })
    (omega (arith, size)) (omega (arith, size)) part (some_left _ (sym c.if-is_empty-2.false ∙ c.is_empty-2.ensures)) c.in_ok-self.ensures refl refl
