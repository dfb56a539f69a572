use Rattle.nbd_capture.proofs.Common.{◌+◌, ◌≤◌, length, Seen, nothing}
use Rattle.nbd_capture.proofs.contents.read_size.Given as goal

abbrev pub invariant-loop-line : goal.invariant-loop-line
invariant-loop-line l = record {
  seen : Seen l.text l.rest l.number nothing;
  count : l.number + length l.rest ≤ length l.text;
}

abbrev pub decreases-loop-line : goal.decreases-loop-line
decreases-loop-line l = length l.rest
