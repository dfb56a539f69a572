use Rattle.nbd_capture.proofs.{Common.{arith, err_from_is_err_and}, PieceLemmas.{begins_fault, begins_last, begins_on, begins_whole}}
use Rattle.nbd_capture.proofs.source.Source.read_line.Goals as goal

pub loop-preserved : goal.loop-preserved
loop-preserved g c = begins_on _ _ _ _ _ c.loop.invariant (rw c.in-Part.is at c.in_ok-read_piece.ensures)

pub returns-in-Last : goal.returns-in-Last
returns-in-Last g c = begins_whole _ _ _ _ _ c.loop.invariant (rw c.in-Last.is at c.in_ok-read_piece.ensures)

pub returns-in-End : goal.returns-in-End
returns-in-End g c = begins_last _ _ _ _ _ c.loop.invariant (rw c.in-End.is at c.in_ok-read_piece.ensures)

pub returns-in_err-read_piece : goal.returns-in_err-read_piece
returns-in_err-read_piece g c = grind (arith, err_from_is_err_and, begins_fault)
