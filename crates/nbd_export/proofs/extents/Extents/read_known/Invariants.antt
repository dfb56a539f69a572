use Rattle.nbd_export.proofs.Common.{◌≡◌, ◌+◌, ◌-◌, ◌<◌, ◌≤◌, ℕ, Some, length, slice_index, byte_of}
use Rattle.nbd_export.proofs.extents.Extents.read_known.Given as goal

abbrev pub invariant-loop-done : goal.invariant-loop-done
invariant-loop-done l = record {
  few : l.done ≤ length l.into;
  bytes : (i : ℕ) → i < l.done → slice_index l.into i < 256;
  known : (i : ℕ) → i < l.done → byte_of l.self (l.offset + i) ≡ Some (slice_index l.into i);
}

abbrev pub decreases-loop-done : goal.decreases-loop-done
decreases-loop-done l = length l.initial.into - l.done
