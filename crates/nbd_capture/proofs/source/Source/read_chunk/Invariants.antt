use Rattle.nbd_capture.proofs.Common.{[], Reads, Open, reading}
use Rattle.nbd_capture.proofs.source.Source.read_chunk.Given as goal

abbrev pub invariant-loop-side : goal.invariant-loop-side
invariant-loop-side g l = Reads (reading g.R.Read.remaining l.initial.self Open) (reading g.R.Read.remaining l.self Open) []

abbrev pub decreases-loop-side : goal.decreases-loop-side
decreases-loop-side g l = l.self.room
