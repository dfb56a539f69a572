use Rattle.nbd_judge.proofs.{Common.{IsLeast, with_counts}, orders.ShownLemmas.ShownBefore}
use Rattle.nbd_judge.proofs.due.least_shown.Given as goal

abbrev pub invariant-loop-i : goal.invariant-loop-i
invariant-loop-i l = IsLeast (ShownBefore (with_counts l.one.pieces.items l.counts) l.span l.i) l.least
