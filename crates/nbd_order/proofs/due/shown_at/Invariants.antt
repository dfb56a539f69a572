use Rattle.nbd_order.proofs.{Common.{◌≡◌, with_counts, first_shown}, DueLemmas.shown_from}
use Rattle.nbd_order.proofs.due.shown_at.Given as goal

abbrev pub invariant-loop-i : goal.invariant-loop-i
invariant-loop-i l = shown_from l.one.pieces.items l.counts l.i l.offset
    ≡ first_shown (with_counts l.one.pieces.items l.counts) l.offset
