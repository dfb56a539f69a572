-- A numbered request, its replies, and what became of it.
use Rattle.std.specs.{Prelude.{ℕ, List, ◌+◌, Bool, true, false, Option, Some, None, length, not, ◌&&◌, ◌||◌, ◌==◌, nat_le, if◌then◌else◌, IsTrue, is_some}, List.{flat_map, list_any}}
use Rattle.nbd_wire.specs.{declared.{message.Message.{Message, TheVariants.{Simple, Chunk, ExtendedChunk}}, profile.Profile.{Profile, TheVariants.{Base, Wide}}, payloads.Piece.Piece, sizes.Sizes.Sizes}, protocol.{Contexts.{Context, Filter, are_once, has_id}, Sizes.breaks_sizes, Flags.{has, has_only}, Pieces.{piece_of, is_in, byte_at}}}
use Rattle.nbd_wire.specs.declared.chunks.TheConstants as chunks
use Rattle.nbd_wire.specs.declared.command_flags.TheConstants as command_flags
use Rattle.nbd_wire.specs.declared.commands.TheConstants as commands
use Rattle.nbd_wire.specs.declared.transmission.TheConstants as transmission

-- the export of the session: its size in bytes and its transmission flags
pub record Exporting : Type 0 where
  pub size : ℕ
  pub flags : ℕ

-- a numbered request: whether it has an extended header, its fields, the metadata contexts that were in force for it,
-- its filter, if it has one, the block sizes that the client had to keep, if any, and the messages that completed in
-- answer to it, in order. Its length is that of its range: its filter's, or else that in its head
pub record Operation : Type 0 where
  pub extended : Bool
  pub flags : ℕ
  pub command : ℕ
  pub cookie : ℕ
  pub offset : ℕ
  pub length : ℕ
  pub payload : List ℕ
  pub contexts : List Context
  pub filter : Option Filter
  pub sizes : Option Sizes
  pub replies : List Message

-- an error chunk: its type has bit 15, the highest one (proto.md, "Structured reply types")
abbrev pub is_error_chunk : ℕ → Bool
is_error_chunk kind = nat_le chunks.FIRST_ERROR kind

-- the last message of a reply: a simple one, or a chunk with DONE (proto.md, "Structured reply flags")
unfoldable pub ends_reply : Message → Bool
ends_reply (Simple error cookie payload) = true
ends_reply (Chunk flags kind cookie payload) = has flags chunks.DONE
ends_reply (ExtendedChunk flags kind cookie at payload) = has flags chunks.DONE
ends_reply _ = false

-- the message states that the request failed
unfoldable pub is_failing : Message → Bool
is_failing (Simple error cookie payload) = not (error == 0)
is_failing (Chunk flags kind cookie payload) = is_error_chunk kind
is_failing (ExtendedChunk flags kind cookie at payload) = is_error_chunk kind
is_failing _ = false

-- the reply is finished: the request is no longer outstanding
abbrev pub is_finished : Operation → Bool
is_finished e = list_any ends_reply e.replies

-- one of its replies states a failure
abbrev pub has_failed : Operation → Bool
has_failed e = list_any is_failing e.replies

-- what became of a request
pub data Outcome : Type 0 where
  Success Failure Pending : Outcome

-- pending where nothing finished it, else a failure where a reply states one, else a success
abbrev pub outcome : Operation → Outcome
outcome e = if is_finished e then (if has_failed e then Failure else Success) else Pending

-- the pieces of a request's reply, in the order of their completion
abbrev pub pieces : Operation → List Piece
pieces e = flat_map (piece_of e.offset) e.replies

-- each offset of the request's range lies in a piece
abbrev pub Covers : Operation → List Piece → Type 0
Covers e pieces = (x : ℕ) → IsTrue (is_in e.offset e.length x) → IsTrue (is_some (byte_at pieces x))

-- a BLOCK_STATUS where a context is in force (proto.md, "Metadata querying")
abbrev pub asks_status : Operation → Bool
asks_status e = (e.command == commands.BLOCK_STATUS) && not (length e.contexts == 0)

-- the type of a numbered request is one that this project follows; BLOCK_STATUS is one only where a context is in force
-- (proto.md, "Request types", "Metadata querying")
abbrev pub is_known : Operation → Bool
is_known e =
    (e.command == commands.READ) || (e.command == commands.WRITE) || (e.command == commands.FLUSH)
    || (e.command == commands.TRIM) || (e.command == commands.CACHE) || (e.command == commands.WRITE_ZEROES)
    || asks_status e

-- in this profile a server may serve requests of this type while it sends their reply, message by message: READs in
-- Wide (this project's choice)
abbrev pub is_chunked : Profile → (command : ℕ) → Bool
is_chunked Base command = false
is_chunked Wide command = command == commands.READ

-- the types whose offset and length are a range of the export (proto.md, "Request types")
abbrev pub has_range : ℕ → Bool
has_range command =
    (command == commands.READ) || (command == commands.WRITE)
    || (command == commands.TRIM) || (command == commands.CACHE) || (command == commands.WRITE_ZEROES)
    || (command == commands.BLOCK_STATUS)

-- the types that change the export (proto.md, "Request types")
abbrev pub is_change : ℕ → Bool
is_change command = (command == commands.WRITE) || (command == commands.TRIM) || (command == commands.WRITE_ZEROES)

-- the export offers the type: FLUSH, TRIM and WRITE_ZEROES by their flags, every other always (proto.md, "Transmission
-- flags"; that CACHE needs no SEND_CACHE is this project's choice)
abbrev pub is_offered : ℕ → ℕ → Bool
is_offered export command =
    (not (command == commands.FLUSH) || has export transmission.SEND_FLUSH)
    && (not (command == commands.TRIM) || has export transmission.SEND_TRIM)
    && (not (command == commands.WRITE_ZEROES) || has export transmission.SEND_WRITE_ZEROES)

-- a filter that a client may send: the server offers BLOCK_STATUS_PAYLOAD, each id is that of a context in force, and
-- none comes twice among them (proto.md, "Transmission flags", has the flag's number; the rest is this project's
-- choice, read from libnbd and qemu, and so is that there may be no id, which qemu refuses)
abbrev pub takes_filter : (export : ℕ) → List Context → Option Filter → Bool
takes_filter export contexts (Some filter) =
    has export transmission.BLOCK_STATUS_PAYLOAD && are_once (has_id contexts) filter.ids
takes_filter export contexts None = false

-- PAYLOAD_LEN is a flag of a WRITE with an extended header, and with a filter that may be sent (this project's choice)
abbrev pub may_carry : (export : ℕ) → Operation → Bool
may_carry export e = (e.extended && (e.command == commands.WRITE)) || takes_filter export e.contexts e.filter

-- the flags that a request of this type may have (proto.md, "Command flags"), by whether PAYLOAD_LEN is one
abbrev pub allowed_flags : (carries : Bool) (export command : ℕ) → ℕ
allowed_flags carries export command =
    (if carries then command_flags.PAYLOAD_LEN else 0)
    + (if has export transmission.SEND_FUA then command_flags.FUA else 0)
    + (if command == commands.WRITE_ZEROES then command_flags.NO_HOLE else 0)
    + (if (command == commands.READ) && has export transmission.SEND_DF then command_flags.DF else 0)
    + (if (command == commands.WRITE_ZEROES) && has export transmission.SEND_FAST_ZERO then command_flags.FAST_ZERO
    else 0)
    + (if command == commands.BLOCK_STATUS then command_flags.REQ_ONE else 0)

-- a request that a client should send: of a known type, its range inside the export, offered, no
-- change of a read-only export, with allowed flags, and a FLUSH with offset 0 and length 0 (proto.md,
-- "Transmission flags", "Command flags", "Request types")
unfoldable pub is_proper : Exporting → Operation → Bool
is_proper export e =
    is_known e
    && (not (has_range e.command) || nat_le (e.offset + e.length) export.size)
    && is_offered export.flags e.command
    && (not (is_change e.command) || not (has export.flags transmission.READ_ONLY))
    && has_only e.flags (allowed_flags (may_carry export.flags e) export.flags e.command)
    && (not (e.command == commands.FLUSH) || ((e.offset == 0) && (e.length == 0)))

-- a request of a known type with a range that breaks the block sizes (proto.md, "Size constraints"; that no other
-- request is outside, and that nothing is refused for it, are this project's choices)
abbrev pub is_outside : Operation → Bool
is_outside e = is_known e && has_range e.command && breaks_sizes e.sizes e.command e.offset e.length

-- proper on the export, if there is one
abbrev pub proper_on : Option Exporting → Operation → Bool
proper_on (Some export) e = is_proper export e
proper_on None e = false
