-- The places of the outstanding requests, by their cookies; messages of transmission by their heads; and where content
-- lies in an export.
use Rattle.std.specs.{Prelude.{ℕ, ◌+◌, ◌-◌, Bool, true, false, Option, Some, None, ◌&&◌, nat_le, get_or, if◌then◌else◌, List}, BTreeMap.get, Ordering.nat_cmp}
use Rattle.nbd_state.specs.declared.{outstanding.{Outstanding.Outstanding, Row.Row}, span.Span.Span}
use Rattle.nbd_wire.specs.{declared.{heads.transmission.{ChunkHead.ChunkHead, RequestHead.RequestHead}, message.Message.{Message, TheVariants.{Chunk, ExtendedChunk, ExtendedRequest, Request}}, payloads.Piece.Piece}, Prelude.{piece_offset, piece_size}}

-- of those in a row, along which cookies and places count up by one
abbrev pub place_in : Row → ℕ → Option ℕ
place_in row cookie =
    if nat_le row.cookie cookie && get_or row.outstanding.items (cookie - row.cookie) false
    then Some (row.place + (cookie - row.cookie)) else None

-- the first place, or else the second
abbrev pub place_or : Option ℕ → Option ℕ → Option ℕ
place_or (Some place) other = Some place
place_or None other = other

-- of all
abbrev pub place_at : Outstanding → ℕ → Option ℕ
place_at outstanding cookie = place_or (place_in outstanding.row cookie) (get nat_cmp outstanding.others cookie)

-- a chunk with these fields; an extended header has an offset
abbrev pub chunk_with : (at : Option ℕ) → (flags kind cookie : ℕ) → List ℕ → Message
chunk_with None flags kind cookie payload = Chunk flags kind cookie payload
chunk_with (Some offset) flags kind cookie payload = ExtendedChunk flags kind cookie offset payload

-- the chunk with the fields of this head, and its payload
abbrev pub chunk_of : ChunkHead → List ℕ → Message
chunk_of head payload = chunk_with head.at head.flags head.kind head.cookie payload

-- a chunk, by whichever header (proto.md, "Structured reply chunk message")
abbrev pub is_chunk : Message → Bool
is_chunk (Chunk flags kind cookie payload) = true
is_chunk (ExtendedChunk flags kind cookie offset payload) = true
is_chunk message = false

-- a request with these fields, by whether its header is extended (proto.md, "Request
-- message"; docs/PROFILE.md, "Extended headers")
abbrev pub request_with : (extended : Bool) → (flags command cookie offset length : ℕ) → List ℕ → Message
request_with false flags command cookie offset length payload = Request flags command cookie offset length payload
request_with true flags command cookie offset length payload =
    ExtendedRequest flags command cookie offset length payload

-- the request with the fields of this head, and what stands behind it
abbrev pub request_of : RequestHead → List ℕ → Message
request_of head payload =
    request_with head.extended head.flags head.command head.cookie head.offset head.length payload

-- a request, by whichever header
abbrev pub is_request : Message → Bool
is_request (Request flags command cookie offset length payload) = true
is_request (ExtendedRequest flags command cookie offset length payload) = true
is_request message = false

-- where a piece lies
abbrev pub span_of : Piece → Span
span_of piece = record { offset = piece_offset piece; size = piece_size piece }
