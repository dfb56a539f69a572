use Rattle.nbd_export.proofs.Common.{◌≡◌, ◌+◌, ◌-◌, ◌/◌, ◌<◌, ◌≤◌, ℕ, IsSome, length, slice_index, PAGE, page_from, stored_byte}
use Rattle.nbd_export.proofs.pages.Pages.write.Given as goal

abbrev pub invariant-loop-done : goal.invariant-loop-done
invariant-loop-done l = record {
  fits : l.done ≤ length l.bytes;
  inside : (i : ℕ) → i < l.done → stored_byte l.self (l.offset + i) ≡ slice_index l.bytes i;
  before : (x : ℕ) → x < l.offset → stored_byte l.self x ≡ stored_byte l.initial.self x;
  behind : (x : ℕ) → l.offset + l.done ≤ x → stored_byte l.self x ≡ stored_byte l.initial.self x;
  room : (x : ℕ) → l.offset ≤ x → x < l.offset + length l.bytes → IsSome (page_from l.self (x / PAGE));
}

abbrev pub decreases-loop-done : goal.decreases-loop-done
decreases-loop-done l = length l.bytes - l.done
