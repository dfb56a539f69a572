use Rattle.nbd_export.proofs.Common.{◌+◌, ◌-◌, ◌<◌, ◌≤◌, ℕ, Some, stored_byte, DiffersIn, zeroes}
use Rattle.nbd_export.proofs.pages.Pages.first_nonzero.Given as goal

abbrev pub invariant-loop-done : goal.invariant-loop-done
invariant-loop-done l = record {
  fits : l.done ≤ l.len;
  none : (x : ℕ) → x < l.offset + l.done → DiffersIn (λ x. Some (stored_byte l.self x)) l.offset l.len zeroes x → ⊥;
}

abbrev pub decreases-loop-done : goal.decreases-loop-done
decreases-loop-done l = l.len - l.done
