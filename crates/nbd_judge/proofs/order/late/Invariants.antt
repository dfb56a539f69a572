use Rattle.nbd_judge.proofs.{Common.{◌≤◌, length, IsLeast, due_in}, orders.LateLemmas.{IsFound, ServedDueFrom}}
use Rattle.nbd_judge.proofs.order.late.Given as goal

abbrev pub invariant-loop-i : goal.invariant-loop-i
invariant-loop-i l = record {
  in_order : l.i ≤ length l.order;
  least : IsLeast (ServedDueFrom (due_in l.profile l.transcript) l.order l.i) l.least;
  found : IsFound (due_in l.profile l.transcript) l.order l.i l.found;
}

abbrev pub decreases-loop-i : goal.decreases-loop-i
decreases-loop-i l = l.i
