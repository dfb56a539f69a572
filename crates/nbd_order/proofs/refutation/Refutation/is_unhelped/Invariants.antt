use Rattle.nbd_order.proofs.Common.{ℕ, ◌≤◌, length, HasGot, HelpsNot}
use Rattle.nbd_order.proofs.refutation.Refutation.is_unhelped.Given as goal

abbrev pub invariant-loop-i : goal.invariant-loop-i
invariant-loop-i l = record {
  within : l.i ≤ length l.transcript.asked;
  none : HasGot l.transcript l.self.offset l.k l.got → (w : ℕ) → w ≤ l.i → HelpsNot l.profile l.transcript l.self.offset l.self.changes.items w l.k;
}
