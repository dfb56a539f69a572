use Rattle.std.proofs.Common.{◌≡◌}
use Rattle.nbd_export.specs.Extents.{size_of}
use Rattle.nbdcheck_first.proofs.tests.ranges.are_counted.Given as goal

abbrev pub invariant-loop-offset : goal.invariant-loop-offset
invariant-loop-offset l = size_of l.extents ≡ 9223372036854775807
