-- How the program's values show what the definitions speak of.
use Rattle.std.specs.Prelude.{◌≡◌, ℕ, false, true, not, Option, Some, None, ◌++◌, is_some, length, ◌==◌, Bool, List, [], ◌∷◌, if◌then◌else◌}
use Rattle.nbd_wire.specs.declared.commands.TheConstants as commands
use Rattle.nbd_wire.specs.{Prelude.{has_id, Operation, Exporting, is_finished, is_proper, has_failed, outcome, pieces, is_settled, zeroes, is_outside, piece_offset, piece_size, Shown}, declared.payloads.Piece.Piece}
use Rattle.nbd_wire.specs.protocol.Operations as definitions
use Rattle.nbd_state.specs.{declared.{asked.{Asked.Asked, Exchange.Exchange, Outcome.{Outcome, TheVariants.{Success, Failure, Pending}}}, state.Export.Export}, Filters.is_settled_by}

-- the export of a session
abbrev pub exporting : Export → Exporting
exporting export = record { size = export.size; flags = export.flags }

abbrev pub exporting_if : Option Export → Option Exporting
exporting_if (Some export) = Some (exporting export)
exporting_if None = None

-- what became of a request
abbrev pub outcome_of : Outcome → definitions.Outcome
outcome_of Success = definitions.Success
outcome_of Failure = definitions.Failure
outcome_of Pending = definitions.Pending

-- each piece has its count
abbrev pub AreCounted : Asked → Type 0
AreCounted a = length a.pieces.counts ≡ length a.pieces.items

-- a message of its reply has completed
abbrev pub has_reply : Operation → Bool
has_reply e = not (length e.replies == 0)

-- an exchange shows a numbered request of a session on this export
pub record IsShown (export : Exporting) (e : Operation) (x : Exchange) : Type 0 where
  pub flags : x.asked.flags ≡ e.flags
  pub command : x.asked.command ≡ e.command
  pub cookie : x.asked.cookie ≡ e.cookie
  pub offset : x.asked.offset ≡ e.offset
  pub length : x.asked.length ≡ e.length
  pub payload : x.asked.payload ≡ e.payload
  pub proper : x.asked.proper ≡ is_proper export e
  pub outside : x.asked.outside ≡ is_outside e
  pub replied : is_some x.asked.known_at ≡ has_reply e
  pub outcome_is : outcome_of x.asked.outcome ≡ outcome e
  pub failed : x.asked.failed ≡ has_failed e
  pub pieces_are : x.asked.pieces.items ≡ zeroes export e ++ pieces e
  -- while it is outstanding nothing has ended, and each piece of a READ has its count
  pub is_open : is_finished e ≡ false → (x.asked.ended_at ≡ None)
      × (e.command ≡ commands.READ → AreCounted x.asked)
  pub told_are : is_finished e ≡ false → (id : ℕ) → has_id e.contexts id ≡ true
      → is_settled_by x.asked.pieces.told id ≡ is_settled e id

-- the ranges of the pieces, each with its count; of the pieces that stand behind the counts nothing
abbrev pub with_counts : List Piece → (counts : List ℕ) → List Shown
with_counts [] counts = []
with_counts (piece ∷ pieces) [] = []
with_counts (piece ∷ pieces) (n ∷ counts) =
    record { offset = piece_offset piece; size = piece_size piece; count = n } ∷ with_counts pieces counts

-- what of a READ the messages before the last one showed
abbrev pub shown_in : Asked → List Shown
shown_in a = if a.command == commands.READ then with_counts a.pieces.items a.pieces.counts else []
