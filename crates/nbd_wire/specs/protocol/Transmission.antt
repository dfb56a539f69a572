-- What is refused of a message of transmission, in lists of tests (`Tests`), each with its section of proto.md.
use Rattle.std.specs.{Prelude.{ℕ, List, [], ◌∷◌, ◌+◌, if◌then◌else◌, Option, Some, None, Bool, true, false, not, ◌&&◌, ◌||◌, ◌==◌, nat_le, nat_lt, length, is_some}, List.list_all}
use Rattle.nbd_wire.specs.declared.chunks.TheConstants as chunks
use Rattle.nbd_wire.specs.declared.command_flags.TheConstants as command_flags
use Rattle.nbd_wire.specs.declared.commands.TheConstants as commands
use Rattle.nbd_wire.specs.declared.{payloads.{Failure.Failure, Piece.Piece}, fault.WireFault.{WireFault, TheVariants.{CookieInUse, UnknownCookie, SimpleForbidden, ChunkForbidden, BadChunk, BadContent, IncompleteRead, SuccessOfImproper, BadDisconnect, IncompleteStatus, OutOfProfile, BadReplyOffset}}, profile.Profile.{Profile, TheVariants.{Base, Wide}}, limits.TheConstants.LONGEST_PAYLOAD}
use Rattle.nbd_wire.specs.protocol.{Payloads.{content_of, failure_of, status_of}, Operations.{Exporting, Operation, asks_status, has_failed, is_error_chunk, is_proper, pieces}, Flags.has, Sendable.carries_payload, Pieces.{is_in, piece_offset, piece_size}, Contexts.{Context, Extent, Status, has_id, reach}, Statuses.{are_settled, but_last, is_settled}, Tests.{◌when◌else◌}}

-- a payload behind an extended header that is longer than 2^32 - 1 bytes (this project's choice)
abbrev pub is_too_large : (len : ℕ) → Bool
is_too_large len = nat_lt LONGEST_PAYLOAD len

-- a request, at its head
abbrev pub request_fault : (extended : Bool) (flags command offset len : ℕ) → Option WireFault
request_fault extended flags command offset len =
    -- a payload behind an extended header that is too large (this project's choice)
    OutOfProfile when extended && carries_payload flags command && is_too_large len else
    -- a DISC with an offset or a length ("Request types")
    BadDisconnect when (command == commands.DISC) && not ((offset == 0) && (len == 0)) else
    None

-- how many bytes follow the head of a request
abbrev pub request_payload_length : (extended : Bool) (flags command len : ℕ) → ℕ
request_payload_length extended flags command len =
    if (if extended then carries_payload flags command else command == commands.WRITE) then len else 0

-- at the last byte of a request; `outstanding` is the request that has its cookie
abbrev pub cookie_fault : (command : ℕ) (outstanding : Option ℕ) → Option WireFault
cookie_fault command outstanding =
    -- an outstanding request has its cookie ("Transmission", where it is a SHOULD; that it is refused is this project's
    -- choice)
    CookieInUse when not (command == commands.DISC) && is_some outstanding else
    None

-- at the head of a simple reply
abbrev pub simple_fault : (structured : Bool) → Option Operation → (error : ℕ) → Option WireFault
-- no request outstanding when it started has its cookie ("Transmission"; that its start decides: this project's choice)
simple_fault structured None error = UnknownCookie when true else None
simple_fault structured (Some e) error =
    -- it comes after a chunk, to a READ under structured replies, or as success to a BLOCK_STATUS ("Structured reply
    -- chunk message", "Simple reply message", "Request types")
    SimpleForbidden when not (length e.replies == 0)
    || (((e.command == commands.READ) && structured) || (asks_status e && (error == 0))) else
    None

-- how many bytes follow the head of a simple reply ("Simple reply message")
abbrev pub simple_payload_length : Option Operation → (error : ℕ) → ℕ
simple_payload_length None error = 0
simple_payload_length (Some e) error = if (e.command == commands.READ) && (error == 0) then e.length else 0

-- at the last byte of a simple reply
abbrev pub simple_last_fault : Exporting → Option Operation → (error : ℕ) → Option WireFault
simple_last_fault export None error = None
simple_last_fault export (Some e) error =
    -- success of an improper request (this project's choice)
    SuccessOfImproper when (error == 0) && not (is_proper export e) else
    None

-- at the head of a chunk, with an extended header or not
abbrev pub chunk_head_fault : (extended structured : Bool) → Option Operation → (len : ℕ) → Option WireFault
chunk_head_fault extended structured to len =
    -- a payload behind an extended header that is too large (this project's choice)
    OutOfProfile when extended && is_too_large len else
    -- no request that was outstanding when it started has its cookie ("Transmission")
    UnknownCookie when not (is_some to) else
    -- structured replies are not in force ("Structured reply chunk message")
    ChunkForbidden when not structured else
    None

-- at the last byte of a chunk with an extended header, behind what else is refused of it
abbrev pub offset_fault : (earlier : Option WireFault) → Operation → (offset : ℕ) → Option WireFault
offset_fault (Some fault) e offset = Some fault
offset_fault None e offset =
    -- another offset than its request's (this project's choice, read from libnbd and qemu)
    BadReplyOffset when not (offset == e.offset) else
    None

-- the pieces stand side by side
abbrev pub is_apart : Piece → Piece → Bool
is_apart p q = nat_le (piece_offset p + piece_size p) (piece_offset q)
    || nat_le (piece_offset q + piece_size q) (piece_offset p)

-- it stands beside each of these
abbrev pub is_apart_from : Piece → List Piece → Bool
is_apart_from p pieces = list_all (is_apart p) pieces

-- the piece lies in the range of the request
abbrev pub is_inside : Operation → Piece → Bool
is_inside e piece = nat_le e.offset (piece_offset piece)
    && nat_le (piece_offset piece + piece_size piece) (e.offset + e.length)

-- the piece may join those of the request: it answers a READ, lies in its range, shares no offset with an earlier one,
-- and is the only one of a proper READ with DF ("Structured reply types", "Command flags")
abbrev pub fits_read : Exporting → Operation → Piece → Bool
fits_read export e piece =
    (e.command == commands.READ)
    && (is_inside e piece
    && (is_apart_from piece (pieces e)
    && (not (is_proper export e && has e.flags command_flags.DF) || (length (pieces e) == 0))))

-- the offset of an error chunk lies in the range of the request ("Structured reply types")
abbrev pub fits_failure : Operation → Option ℕ → Bool
fits_failure e None = true
fits_failure e (Some x) = is_in e.offset e.length x

-- all extents but the last end before the range does, and with REQ_ONE there is one, not longer than the range
-- ("Structured reply types", "Command flags"; that the last may pass the range is this project's choice)
abbrev pub fits_range : Operation → List Extent → Bool
fits_range e extents =
    not (nat_le e.length (reach (but_last extents)))
    && (not (has e.flags command_flags.REQ_ONE) || ((length extents == 1) && nat_le (reach extents) e.length))

-- the status may join those of the request: it answers a BLOCK_STATUS, is of a context in force that the request asks
-- and no earlier one is of, and of a range that is not empty its extents fit ("Structured reply types"; that no status
-- comes twice in a reply that fails, what a filter asks, and what holds of length 0, are this project's choices)
abbrev pub fits_status : Operation → Status → Bool
fits_status e status =
    (e.command == commands.BLOCK_STATUS)
    && (has_id e.contexts status.id
    && (not (is_settled e status.id)
    && ((e.length == 0) || fits_range e status.extents)))

-- the type as which a chunk is read: in the profile Wide a type of an error that is not known is one without an offset
-- ("Structured reply types")
abbrev pub read_as : Profile → (kind : ℕ) → ℕ
read_as Base kind = kind
read_as Wide kind = if is_error_chunk kind && not (kind == chunks.ERROR_OFFSET) then chunks.ERROR else kind

-- the type of a status chunk: with an extended header another one ("Structured reply types", which has its number; that
-- it takes the place of the other is this project's choice)
abbrev pub status_kind : (extended : Bool) → ℕ
status_kind false = chunks.BLOCK_STATUS
status_kind true = chunks.BLOCK_STATUS_EXT

-- what a chunk says of status, where these contexts are in force
abbrev pub status_if : (extended : Bool) → List Context → (kind : ℕ) → List ℕ → Option Status
status_if extended contexts kind payload =
    if (kind == status_kind extended) && not (length contexts == 0) then status_of extended payload else None

-- content that does not fit its request ("Structured reply types", "Command flags"); `next`: what its reply's end says
abbrev pub piece_fault : Exporting → Operation → Piece → (next : Option WireFault) → Option WireFault
piece_fault export e piece next = BadContent when not (fits_read export e piece) else next

-- an error chunk whose offset is none of its request ("Structured reply types")
abbrev pub failure_fault : Operation → Failure → (next : Option WireFault) → Option WireFault
failure_fault e failure next = BadContent when not (fits_failure e failure.offset) else next

-- a status that does not fit its request ("Structured reply types", "Command flags")
abbrev pub status_fault : Operation → Status → (next : Option WireFault) → Option WireFault
status_fault e status next = BadContent when not (fits_status e status) else next

-- at the last byte of a chunk that is no NONE, by its payload
abbrev pub content_fault : Exporting → Operation → Option Piece → Option Failure → Option Status
    → (next : Option WireFault) → Option WireFault
content_fault export e (Some piece) failure status next = piece_fault export e piece next
content_fault export e None (Some failure) status next = failure_fault e failure next
content_fault export e None None (Some status) next = status_fault e status next
-- its type is unknown, or its payload has not the form of its type ("Structured reply types")
content_fault export e None None None next = BadChunk when true else None

-- a NONE that is not empty, or not the last of its reply ("Structured reply types")
abbrev pub none_fault : (has_payload done : Bool) → (next : Option WireFault) → Option WireFault
none_fault has_payload done next = BadChunk when has_payload || not done else next

-- the sizes of pieces, added up
abbrev pub total : List Piece → ℕ
total [] = 0
total (piece ∷ pieces) = piece_size piece + total pieces

-- a BLOCK_STATUS of a range that is not empty lacks the status of a context in force that it asks (what a filter asks
-- is this project's choice)
abbrev pub lacks_status : Operation → Bool
lacks_status e =
    (e.command == commands.BLOCK_STATUS) && (not (e.length == 0) && not (are_settled (is_settled e) e.contexts))

-- at the end of a reply that gave these pieces; one that states a failure may end as it is
abbrev pub finish_fault : Exporting → Operation → (failed : Bool) → List Piece → Option WireFault
finish_fault export e true ps = None
finish_fault export e false ps =
    -- a READ that is not covered: its pieces share no offset, so their sizes add up ("Request types")
    IncompleteRead when (e.command == commands.READ) && not (total ps == e.length) else
    -- success of an improper request (this project's choice)
    SuccessOfImproper when not (is_proper export e) else
    -- a context without its status ("Request types", "Structured reply types")
    IncompleteStatus when lacks_status e else
    None

-- a chunk with DONE ends its reply
abbrev pub done_fault : (done : Bool) → Exporting → Operation → Option WireFault
done_fault false export e = None
done_fault true export e = finish_fault export e (has_failed e) (pieces e)

-- at the last byte of a chunk to request e, read as one of this type, with an extended header or not; then e has it
abbrev pub chunk_fault : (extended is_none : Bool) → Exporting → (e with_chunk : Operation) → (flags kind : ℕ)
    → List ℕ → Option WireFault
chunk_fault extended true export e with_chunk flags kind payload =
    none_fault (not (length payload == 0)) (has flags chunks.DONE)
    (done_fault (has flags chunks.DONE) export with_chunk)
chunk_fault extended false export e with_chunk flags kind payload =
    content_fault export e (content_of kind payload) (failure_of kind payload)
    (status_if extended e.contexts kind payload) (done_fault (has flags chunks.DONE) export with_chunk)
