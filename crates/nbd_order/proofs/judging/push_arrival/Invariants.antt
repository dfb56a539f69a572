use Rattle.nbd_order.proofs.Common.{◌≡◌, ◌≤◌, vec_capacity, arrival}
use Rattle.nbd_order.proofs.judging.push_arrival.Given as goal

abbrev pub invariant-loop-i : goal.invariant-loop-i
invariant-loop-i l = record { order : l.order.items ≡ arrival l.i; room : vec_capacity l.initial.order ≤ vec_capacity l.order }
