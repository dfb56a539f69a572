use Rattle.nbd_state.proofs.Common.{◌≡◌, drop, byte_at}
use Rattle.nbd_state.proofs.offsets.byte_read.Given as goal

abbrev pub invariant-loop-piece : goal.invariant-loop-piece
invariant-loop-piece l = record { rest : byte_at l.pieces l.offset ≡ byte_at (drop l.piece-index l.pieces) l.offset }
