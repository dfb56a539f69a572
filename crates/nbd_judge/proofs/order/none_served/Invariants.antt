use Rattle.nbd_judge.proofs.Common.{◌≡◌, ◌≤◌, replicate, Unnamed}
use Rattle.nbd_judge.proofs.order.none_served.Given as goal

abbrev pub invariant-loop : goal.invariant-loop
invariant-loop l = record {
  bound : l.counter ≤ l.count;
  items : l.table.items ≡ replicate l.counter Unnamed;
}
