use Rattle.nbd_order.proofs.{Common.IsStep, NumberLemmas.EachOf}
use Rattle.nbd_order.proofs.refutation.Refutation.are_steps.Given as goal

abbrev pub invariant-loop-c : goal.invariant-loop-c
invariant-loop-c l = EachOf
    (λ c. IsStep l.profile l.transcript l.self.offset l.self.reads.items l.self.changes.items l.self.states.items l.served c)
    l.self.changes.items l.c-index
