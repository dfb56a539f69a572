use Rattle.nbd_export.proofs.Common.{◌+◌, ◌-◌, ◌<◌, ◌≤◌, ℕ, byte_of, DiffersIn, zeroes}
use Rattle.nbd_export.proofs.extents.Extents.nonzero_by_kind.Given as goal

abbrev pub invariant-loop-done : goal.invariant-loop-done
invariant-loop-done l = record {
  fits : l.done ≤ l.len;
  none : (x : ℕ) → x < l.offset + l.done → DiffersIn (byte_of l.self) l.offset l.len zeroes x → ⊥;
}

abbrev pub decreases-loop-done : goal.decreases-loop-done
decreases-loop-done l = l.len - l.done
