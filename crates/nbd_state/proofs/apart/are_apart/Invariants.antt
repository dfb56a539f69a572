use Rattle.nbd_state.proofs.Common.{◌≡◌, drop, is_apart_from, span_of, Piece}
use Rattle.nbd_state.proofs.apart.are_apart.Given as goal

abbrev pub invariant-loop-piece : goal.invariant-loop-piece
invariant-loop-piece l = record { rest : (p : Piece) → span_of p ≡ l.span → is_apart_from p l.pieces ≡ is_apart_from p (drop l.piece-index l.pieces) }
