use Rattle.nbd_export.proofs.Common.{◌+◌, ◌-◌, ◌<◌, ◌≤◌, ℕ, Some, length, stored_byte, DiffersIn, bytes_from}
use Rattle.nbd_export.proofs.pages.Pages.first_other.Given as goal

abbrev pub invariant-loop-done : goal.invariant-loop-done
invariant-loop-done l = record {
  fits : l.done ≤ length l.bytes;
  none : (x : ℕ) → x < l.offset + l.done → DiffersIn (λ x. Some (stored_byte l.self x)) l.offset (length l.bytes) (bytes_from l.offset l.bytes) x → ⊥;
}

abbrev pub decreases-loop-done : goal.decreases-loop-done
decreases-loop-done l = length l.bytes - l.done
