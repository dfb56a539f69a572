use Rattle.nbd_export.proofs.Common.{◌≡◌, ◌<◌, ◌≤◌, ℕ, IsSome, page_from, stored_byte}
use Rattle.nbd_export.proofs.pages.Pages.make_room.Given as goal

abbrev pub invariant-loop-number : goal.invariant-loop-number
invariant-loop-number l = record {
  bytes : (x : ℕ) → stored_byte l.self x ≡ stored_byte l.initial.self x;
  room : (n : ℕ) → l.first ≤ n → n < l.number → IsSome (page_from l.self n);
}
