use Rattle.nbd_order.proofs.Common.{◌≡◌, ◌+◌, ◌<◌, ℕ, Some, slice_get}
use Rattle.nbd_order.proofs.refuting.are_rising.Given as goal

abbrev pub invariant-loop-i : goal.invariant-loop-i
invariant-loop-i l = (j a b : ℕ) → j + 1 < l.i → slice_get l.numbers j ≡ Some a → slice_get l.numbers (j + 1) ≡ Some b → a < b
