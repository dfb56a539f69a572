use Rattle.nbd_order.proofs.{Common.IsReadAt, NumberLemmas.EachOf}
use Rattle.nbd_order.proofs.refutation.Refutation.are_reads.Given as goal

abbrev pub invariant-loop-k : goal.invariant-loop-k
invariant-loop-k l = EachOf (λ k. IsReadAt l.profile l.transcript l.self.offset k) l.self.reads.items l.k-index
