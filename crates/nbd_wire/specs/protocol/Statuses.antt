-- What the reply to a BLOCK_STATUS says of its range (proto.md, "Structured reply types").
use Rattle.std.specs.{Prelude.{ℕ, List, [], ◌∷◌, ◌++◌, ◌+◌, ◌-◌, ◌==◌, ◌&&◌, ◌||◌, Bool, true, false, not, min, codes, bytes_eq, if◌then◌else◌, option_to_list, take}, List.{list_any, flat_map, list_all}}
use Rattle.nbd_wire.specs.{declared.{message.Message.{Message, TheVariants.{Chunk, ExtendedChunk}}, payloads.Piece.{Piece, TheVariants.Hole}}, protocol.{Contexts.{Context, Extent, Status, is_left_out}, Payloads.status_of, Flags.has, Operations.{Exporting, Operation, is_proper}}}
use Rattle.nbd_wire.specs.declared.chunks.TheConstants as chunks
use Rattle.nbd_wire.specs.declared.commands.TheConstants as commands
use Rattle.nbd_wire.specs.declared.states.TheConstants as states

-- the status in a message, where it is a status chunk
abbrev pub status_in : Message → List Status
status_in (Chunk flags kind cookie payload) =
    if kind == chunks.BLOCK_STATUS then option_to_list (status_of false payload) else []
status_in (ExtendedChunk flags kind cookie offset payload) =
    if kind == chunks.BLOCK_STATUS_EXT then option_to_list (status_of true payload) else []
status_in _ = []

-- the statuses of a request's reply, in the order of their completion
abbrev pub statuses : Operation → List Status
statuses e = flat_map status_in e.replies

-- one of the statuses is of the context with this id
abbrev pub tells : List Status → ℕ → Bool
tells statuses id = list_any (λ (s : Status). s.id == id) statuses

-- all extents but the last
abbrev pub but_last : List Extent → List Extent
but_last [] = []
but_last (x ∷ []) = []
but_last (x ∷ y ∷ extents) = x ∷ but_last (y ∷ extents)

-- nothing more is due of the context with this id: it has its status, or the request does not ask it
abbrev pub is_settled : Operation → (id : ℕ) → Bool
is_settled e id = tells (statuses e) id || is_left_out e.filter id

-- each of the contexts is settled
abbrev pub are_settled : (settled : ℕ → Bool) → List Context → Bool
are_settled settled contexts = list_all (λ (c : Context). settled c.id) contexts

-- the context with this id is base:allocation, whose statuses tell what reads as zeroes (proto.md, "Metadata querying")
abbrev pub is_allocation : List Context → ℕ → Bool
is_allocation contexts id =
    list_any (λ (c : Context). (c.id == id) && bytes_eq c.name (codes "base:allocation")) contexts

-- what extents call zero that follow one another from an offset on, as far as so many bytes go (proto.md, "Metadata
-- querying")
abbrev pub zeroes_in : (offset size : ℕ) → List Extent → List Piece
zeroes_in offset size [] = []
zeroes_in offset size (x ∷ extents) =
    (if has x.flags states.ZERO && not (min x.length size == 0) then Hole offset (min x.length size) ∷ [] else [])
    ++ zeroes_in (offset + x.length) (size - x.length) extents

-- what the first of these statuses calls zero in the range of a request, if it is one of base:allocation
abbrev pub zeroes_told : Operation → List Status → List Piece
zeroes_told e [] = []
zeroes_told e (s ∷ statuses) = if is_allocation e.contexts s.id then zeroes_in e.offset e.length s.extents else []

-- the zeroes of a proper BLOCK_STATUS: what the first message of its reply calls zero in its range, where that is a
-- status of base:allocation (this project's choice); other requests have none
abbrev pub zeroes : Exporting → Operation → List Piece
zeroes export e =
    if (e.command == commands.BLOCK_STATUS) && is_proper export e
    then zeroes_told e (flat_map status_in (take 1 e.replies))
    else []
