-- What a request was answered, as contracts see it.
use Rattle.std.specs.Prelude.{ℕ, List}
use Rattle.nbd_wire.specs.declared.payloads.Piece.{Piece}
use Rattle.nbd_state.specs.declared.asking.Telling.{Telling}

-- the pieces in the order of the reply messages; of a READ how many numbered requests had completed when each had come,
-- unless with the last message; and what the reply need not tell any more
pub record PiecesView : Type 0 where
  pub items : List Piece
  pub counts : List ℕ
  pub told : Telling
