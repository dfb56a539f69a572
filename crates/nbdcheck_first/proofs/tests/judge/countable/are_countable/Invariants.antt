use Rattle.std.proofs.Common.{◌≡◌, ◌+◌, length, take}
use Rattle.nbd_wire.specs.Prelude.{flat}
use Rattle.nbd_judge.specs.Captures.{records_of}
use Rattle.nbdcheck_first.proofs.tests.judge.countable.are_countable.Given as goal

abbrev pub invariant-loop-bytes : goal.invariant-loop-bytes
invariant-loop-bytes l = l.left + length (flat (records_of (take l.bytes-index l.chunks))) ≡ 9223372036854775807
