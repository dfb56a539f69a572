use Rattle.nbd_order.proofs.{Common.IsFitting, NumberLemmas.EachOf}
use Rattle.nbd_order.proofs.refutation.Refutation.fits.Given as goal

abbrev pub invariant-loop-k : goal.invariant-loop-k
invariant-loop-k l = EachOf
    (λ k. IsFitting l.profile l.transcript l.self.offset l.self.reads.items l.self.changes.items l.served l.byte k)
    l.self.reads.items l.k-index
