-- The chunks that were read so far were pushed, up to a refused byte.
use Rattle.nbd_tool.proofs.Common.{◌≡◌, List, Chunk, Reads, at_start, Open, READ_LIMIT, flat_of, [], Profile}
use Rattle.nbd_tool.proofs.capture.push_read.Given as goal

abbrev pub invariant-loop-bytes : goal.invariant-loop-bytes
invariant-loop-bytes g l =
    (chunks : List Chunk) × Reads (at_start l.initial.reader.rest READ_LIMIT) l.reader chunks × (l.reader.state ≡ Open) × ((profile : Profile) → g.T.Intake.over l.initial.intake profile [] → g.T.Intake.over l.intake profile (flat_of chunks))

abbrev pub decreases-loop-bytes : goal.decreases-loop-bytes
decreases-loop-bytes g l = l.reader.room
