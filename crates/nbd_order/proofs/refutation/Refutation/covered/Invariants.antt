use Rattle.nbd_order.proofs.{Common.{ℕ, HelpsNot}, NumberLemmas.EachOf}
use Rattle.nbd_order.proofs.refutation.Refutation.covered.Given as goal

abbrev pub invariant-loop-k : goal.invariant-loop-k
invariant-loop-k l = EachOf (λ k. (w : ℕ) → HelpsNot l.profile l.transcript l.self.offset l.self.changes.items w k) l.self.reads.items l.k-index
