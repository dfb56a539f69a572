-- What the payloads of options, of option replies and of chunks state. Numbers are big-endian.
use Rattle.std.specs.{Prelude.{ℕ, zero, suc, List, [], Option, Some, None, length, ◌∷◌, ◌==◌, ◌&&◌, ◌||◌, ◌+◌, ◌*◌, ◌/◌, ◌%◌, not, nat_le, if◌then◌else◌, take, drop, Bool, true, false}, List.list_any}
use Rattle.nbd_wire.specs.{declared.payloads.{Info.{Info, TheVariants.{Export, BlockSize, Other}}, Piece.{Piece, TheVariants.{Bytes, Hole}}, Failure.Failure}, protocol.Contexts.{Context, Extent, Filter, Status}}
use Rattle.byteorder.specs.Endian.{big_number}
use Rattle.nbd_wire.specs.declared.chunks.TheConstants as chunks
use Rattle.nbd_wire.specs.declared.infos.TheConstants as infos

-- the number of the n bytes at a place
abbrev pub number_at : ℕ → ℕ → List ℕ → ℕ
number_at place n bytes = big_number n (drop place bytes)

-- an INFO answer: EXPORT (0) with a size and flags, BLOCK_SIZE (3) with three sizes, or any other type
-- (proto.md, "Option reply types")
unfoldable pub info_of : List ℕ → Option Info
info_of bytes =
    let kind : ℕ = number_at 0 2 bytes in
    if not (nat_le 2 (length bytes)) then None
    else if kind == infos.EXPORT then
    (if length bytes == 12 then Some (Export (number_at 2 8 bytes) (number_at 10 2 bytes)) else None)
    else if kind == infos.BLOCK_SIZE then
    (if length bytes == 14 then Some (BlockSize (number_at 2 4 bytes) (number_at 6 4 bytes) (number_at 10 4 bytes))
    else None)
    else Some (Other kind)

-- a SERVER payload: a name's length, the name, free text (proto.md, "Option reply types")
unfoldable pub is_listed : List ℕ → Bool
is_listed bytes = nat_le 4 (length bytes) && nat_le (4 + number_at 0 4 bytes) (length bytes)

-- the name in data that begin with a name's length and the name; none where they are too short (proto.md, "Option
-- types")
abbrev pub name_in : List ℕ → List ℕ
name_in bytes = if is_listed bytes then take (number_at 0 4 bytes) (drop 4 bytes) else []

-- INFO or GO data: a name's length, the name, a count, two bytes for each (proto.md, "Option types")
unfoldable pub is_go : List ℕ → Bool
is_go bytes =
    let name : ℕ = number_at 0 4 bytes in
    nat_le (6 + name) (length bytes) && (length bytes == 6 + name + 2 * number_at (4 + name) 2 bytes)

-- what stands behind the name in such data
abbrev pub behind_name : List ℕ → List ℕ
behind_name bytes = drop (number_at 0 4 bytes) (drop 4 bytes)

-- so many queries, each its length and its bytes, and no more (proto.md, "Option types")
abbrev pub are_queries : ℕ → List ℕ → Bool
are_queries zero bytes = length bytes == 0
are_queries (suc n) bytes = is_listed bytes && are_queries n (behind_name bytes)

-- LIST_META_CONTEXT or SET_META_CONTEXT data: a name's length, the name, how many queries, and these: how many
-- (proto.md, "Option types", "Metadata querying")
unfoldable pub queries_of : List ℕ → Option ℕ
queries_of bytes =
    let rest : List ℕ = behind_name bytes in
    if is_listed bytes && nat_le 4 (length rest) && are_queries (number_at 0 4 rest) (drop 4 rest) then Some
    (number_at 0 4 rest)
    else None

-- a META_CONTEXT payload: an id, and a name to the end (proto.md, "Option reply types")
unfoldable pub context_of : List ℕ → Option Context
context_of bytes =
    if nat_le 4 (length bytes) then Some (record { id = number_at 0 4 bytes; name = drop 4 bytes }) else None

-- a content chunk: OFFSET_DATA (1) with an offset and at least one byte, or OFFSET_HOLE (2) with an offset
-- and a size above 0 (proto.md, "Structured reply types")
unfoldable pub content_of : ℕ → List ℕ → Option Piece
content_of kind bytes =
    if kind == chunks.OFFSET_DATA then
    (if nat_le 9 (length bytes) then Some (Bytes (number_at 0 8 bytes) (drop 8 bytes)) else None)
    else if (kind == chunks.OFFSET_HOLE) && ((length bytes == 12) && not (number_at 8 4 bytes == 0)) then Some
    (Hole (number_at 0 8 bytes) (number_at 8 4 bytes))
    else None

-- an error chunk: ERROR (0x8001), or ERROR_OFFSET (0x8002) with the offset after the text; an error above 0,
-- a text's length and the text; what comes after is ignored (this project's choice)
unfoldable pub failure_of : ℕ → List ℕ → Option Failure
failure_of kind bytes =
    let error : ℕ = number_at 0 4 bytes in
    let text : ℕ = number_at 4 2 bytes in
    if error == 0 then None
    else if (kind == chunks.ERROR) && nat_le (6 + text) (length bytes) then Some
    (record { error = error; offset = None })
    else if (kind == chunks.ERROR_OFFSET) && nat_le (14 + text) (length bytes) then Some
    (record { error = error; offset = Some (number_at (6 + text) 8 bytes) })
    else None

-- so many ids, of four bytes each
abbrev pub ids_in : (count : ℕ) → List ℕ → List ℕ
ids_in zero bytes = []
ids_in (suc n) bytes = number_at 0 4 bytes ∷ ids_in n (drop 4 bytes)

-- the ids that these bytes are
abbrev pub ids_of : List ℕ → List ℕ
ids_of bytes = ids_in (length bytes / 4) bytes

-- the payload of a BLOCK_STATUS with PAYLOAD_LEN: a length, and ids (this project's choice, read from libnbd and qemu)
unfoldable pub filter_of : List ℕ → Option Filter
filter_of bytes =
    let rest : List ℕ = drop 8 bytes in
    if not (nat_le 8 (length bytes)) || not (length rest % 4 == 0) then None
    else Some (record { length = number_at 0 8 bytes; ids = ids_of rest })

-- so many descriptors, each a length and flags of so many bytes
abbrev pub extents_in : (width count : ℕ) → List ℕ → List Extent
extents_in width zero bytes = []
extents_in width (suc n) bytes =
    record { length = number_at 0 width bytes; flags = number_at width width bytes }
    ∷ extents_in width n (drop (width + width) bytes)

-- the descriptors that these bytes are, of eight bytes each, or of sixteen in a chunk with an extended header
abbrev pub extents_of : (extended : Bool) → List ℕ → List Extent
extents_of false bytes = extents_in 4 (length bytes / 8) bytes
extents_of true bytes = extents_in 8 (length bytes / 16) bytes

-- one of the extents speaks of no byte
abbrev pub has_empty : List Extent → Bool
has_empty extents = list_any (λ (x : Extent). x.length == 0) extents

-- a BLOCK_STATUS chunk: an id, and one or more descriptors to the end, of which none is empty (proto.md, "Structured
-- reply types"); a BLOCK_STATUS_EXT chunk: an id, how many descriptors come, and these (this project's choice: proto.md
-- has the type's number alone)
unfoldable pub status_of : (extended : Bool) → List ℕ → Option Status
status_of extended bytes =
    let rest : List ℕ = drop (if extended then 8 else 4) bytes in
    let is_whole : Bool = if extended then length rest == 16 * number_at 4 4 bytes else length rest % 8 == 0 in
    if not (nat_le (if extended then 24 else 12) (length bytes)) || not is_whole || has_empty (extents_of extended rest)
    then None
    else Some (record { id = number_at 0 4 bytes; extents = extents_of extended rest })
