use Rattle.nbd_export.proofs.Common.{◌-◌, ◌<◌, ◌≤◌, ℕ, length, IsNonzeroAt}
use Rattle.nbd_export.proofs.slices.first_nonzero.Given as goal

abbrev pub invariant-loop-done : goal.invariant-loop-done
invariant-loop-done l = record {
  fits : l.done ≤ length l.bytes;
  none : (x : ℕ) → x < l.done → IsNonzeroAt l.bytes x → ⊥;
}

abbrev pub decreases-loop-done : goal.decreases-loop-done
decreases-loop-done l = length l.bytes - l.done
