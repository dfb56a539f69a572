use Rattle.nbd_order.proofs.{Common.{◌≡◌, true, has}, NumberLemmas.EachOf}
use Rattle.nbd_order.proofs.states.keeps.Given as goal

abbrev pub invariant-loop-k : goal.invariant-loop-k
invariant-loop-k l = EachOf (λ k. has l.served k ≡ true → has l.next k ≡ true) l.reads l.k-index
