use Rattle.nbd_judge.proofs.Common.{ℕ, List, ◌≤◌, length, Entry, AreServices, IsAllServed}
use Rattle.nbd_judge.proofs.order.unserved.Given as goal

abbrev pub invariant-loop-i : goal.invariant-loop-i
invariant-loop-i l =
    (order : List Entry) → AreServices l.transcript order (length order) l.table → (k : ℕ) → k ≤ l.i → IsAllServed l.profile l.transcript order k
