use Rattle.nbd_capture.proofs.{Common.{Open, kept, reading}, PieceLemmas.Begins}
use Rattle.nbd_capture.proofs.source.Source.read_line.Given as goal

abbrev pub invariant-loop : goal.invariant-loop
invariant-loop g l = Begins (reading g.R.Read.remaining l.initial.self Open) (reading g.R.Read.remaining l.self Open) (kept l.self.line l.bytes.items)

abbrev pub decreases-loop : goal.decreases-loop
decreases-loop g l = l.self.room
