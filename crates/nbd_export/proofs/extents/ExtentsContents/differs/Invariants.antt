use Rattle.nbd_export.proofs.Common.{◌+◌, ◌-◌, ◌<◌, ◌≤◌, ℕ, length, byte_of, DiffersIn, bytes_from}
use Rattle.nbd_export.proofs.extents.ExtentsContents.differs.Given as goal

abbrev pub invariant-loop-done : goal.invariant-loop-done
invariant-loop-done l = record {
  fits : l.done ≤ length l.bytes;
  none : (x : ℕ) → x < l.offset + l.done → DiffersIn (byte_of l.self) l.offset (length l.bytes) (bytes_from l.offset l.bytes) x → ⊥;
}

abbrev pub decreases-loop-done : goal.decreases-loop-done
decreases-loop-done l = length l.bytes - l.done
