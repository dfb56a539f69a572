-- The pieces of a request, as it keeps them.
use Rattle.std.specs.Prelude.{[], ◌∷◌, false}
use Rattle.nbd_state.specs.{Pieces.PiecesView, declared.{asking.Telling.Telling, pieces.Kept.{Kept, TheVariants.{Nothing, One, Many}}}}

-- the reply has to tell each context
abbrev pub nothing_told : Telling
nothing_told = record { filtered = false; ids = record { keys = [] } }

abbrev pub pieces_kept : Kept → PiecesView
pieces_kept Nothing = record { items = []; counts = []; told = nothing_told }
pieces_kept (One piece) = record { items = piece ∷ []; counts = []; told = nothing_told }
pieces_kept (Many many) = record {
  items = many.value.pieces.items;
  counts = many.value.counts.items;
  told = many.value.told;
}
