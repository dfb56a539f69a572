use Rattle.nbd_order.proofs.{Common.{◌≡◌, false, has}, NumberLemmas.EachOf}
use Rattle.nbd_order.proofs.states.has_none.Given as goal

abbrev pub invariant-loop-c : goal.invariant-loop-c
invariant-loop-c l = EachOf (λ c. has l.served c ≡ false) l.changes l.c-index
