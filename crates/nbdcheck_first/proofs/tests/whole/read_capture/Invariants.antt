use Rattle.std.proofs.Common.{◌≡◌}
use Rattle.nbd_capture.specs.{Capture.chunks_of, Reading.{Reads, at_start}, declared.reader.State.TheVariants.Open}
use Rattle.nbdcheck_first.proofs.tests.whole.read_capture.Given as goal

abbrev pub invariant-loop-chunks : goal.invariant-loop-chunks
invariant-loop-chunks g l = Reads (at_start (g.R.Read.remaining l.fn.reader) l.limit) l.capture (chunks_of l.chunks.items) × (l.capture.state ≡ Open)

abbrev pub decreases-loop-chunks : goal.decreases-loop-chunks
decreases-loop-chunks g l = l.capture.room
