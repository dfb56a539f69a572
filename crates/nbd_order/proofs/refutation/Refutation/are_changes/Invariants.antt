use Rattle.nbd_order.proofs.{Common.IsChangeAt, NumberLemmas.EachOf}
use Rattle.nbd_order.proofs.refutation.Refutation.are_changes.Given as goal

abbrev pub invariant-loop-c : goal.invariant-loop-c
invariant-loop-c l = EachOf (λ c. IsChangeAt l.transcript l.self.offset c) l.self.changes.items l.c-index
