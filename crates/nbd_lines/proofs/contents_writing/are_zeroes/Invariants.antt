use Rattle.nbd_lines.proofs.Common.{◌≡◌, drop, are_zeroes}
use Rattle.nbd_lines.proofs.contents_writing.are_zeroes.Given as goal

abbrev pub invariant-loop-byte : goal.invariant-loop-byte
invariant-loop-byte l = are_zeroes l.bytes ≡ are_zeroes (drop l.byte-index l.bytes)
