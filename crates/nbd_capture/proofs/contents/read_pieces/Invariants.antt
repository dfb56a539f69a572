use Rattle.nbd_capture.proofs.Common.{◌≡◌, ◌+◌, ◌≤◌, [], List, ℕ, length, Seen, part, up_to}
use Rattle.nbd_export.specs.Extents.{size_of}
use Rattle.nbd_capture.proofs.contents.read_pieces.Given as goal

abbrev pub invariant-loop-line : goal.invariant-loop-line
invariant-loop-line l = record {
  size : size_of l.contents ≡ size_of l.initial.contents;
  at : l.at ≤ size_of l.contents;
  count : l.number + length l.rest ≤ l.lines + length l.text;
  seen : (whole : List ℕ) → Seen whole l.text l.lines (part (size_of l.initial.contents) []) → Seen whole l.rest l.number (up_to l.contents l.at);
}

abbrev pub decreases-loop-line : goal.decreases-loop-line
decreases-loop-line l = length l.rest
