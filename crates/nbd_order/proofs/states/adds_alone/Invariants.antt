use Rattle.nbd_order.proofs.{Common.{◌≡◌, ◌==◌, ◌||◌, has}, NumberLemmas.EachOf}
use Rattle.nbd_order.proofs.states.adds_alone.Given as goal

abbrev pub invariant-loop-d : goal.invariant-loop-d
invariant-loop-d l = EachOf (λ d. has l.next d ≡ (has l.served d || (l.c == d))) l.changes l.d-index
