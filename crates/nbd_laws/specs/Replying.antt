-- What the replies to a request are.
use Rattle.nbd_wire.specs.Prelude.{Status, has_id, reach, Item, status_of, operations_of, Operation, ends_reply, has_failed, has, is_in, IsRunOf, cookie_of, ends_at, operation, start, with_reply, are_settled, but_last, is_settled, read_as, status_kind, content_of, failure_of, asks_status}
use Rattle.nbd_wire.specs.declared.{message.Message.{Message, TheVariants.{Simple, Chunk, ExtendedChunk}}, payloads.{Failure.Failure, Piece.Piece}, profile.Profile.Profile}
use Rattle.std.specs.Prelude.{◌≡◌, ◌⊎◌, ◌<◌, ◌≤◌, ℕ, List, [], ◌∷◌, ◌++◌, Bool, true, false, Some, IsTrue, ◌≢◌, length}
use Rattle.nbd_wire.specs.declared.chunks.TheConstants as chunks
use Rattle.nbd_wire.specs.declared.command_flags.TheConstants as command_flags
use Rattle.nbd_wire.specs.declared.commands.TheConstants as commands

-- a status chunk answers a BLOCK_STATUS and is of a context in force that the request asks and no earlier chunk of the
-- reply is of; unless the request's length is 0, its extents but the last end before the range does, and with REQ_ONE
-- there is one, not longer than the range (proto.md, "Structured reply types", "Command flags"; that no chunk comes
-- twice in a reply that fails, what a filter asks, that the last extent may pass the range, and what holds of length 0
-- are this project's choices)
abbrev pub IsStatus : Operation → Status → Type 0
IsStatus e status =
    (e.command ≡ commands.BLOCK_STATUS)
    × (has_id e.contexts status.id ≡ true)
    × (is_settled e status.id ≡ false)
    × (e.length ≢ 0 → (reach (but_last status.extents) < e.length)
    × (IsTrue (has e.flags command_flags.REQ_ONE)
    → (length status.extents ≡ 1) × (reach status.extents ≤ e.length)))

-- a chunk to this request: an empty one with DONE, content of a READ, an error in its range, or the status of a context
-- that is in force and that a BLOCK_STATUS asks
abbrev pub FitsRequest : Profile → (extended : Bool) → Operation → (flags kind : ℕ) (payload : List ℕ) → Type 0
FitsRequest profile extended e flags kind payload =
    (kind ≡ chunks.NONE) × (payload ≡ []) × IsTrue (has flags chunks.DONE)
    ⊎ ((piece : Piece) × (content_of kind payload ≡ Some piece) × (e.command ≡ commands.READ))
    ⊎ ((failure : Failure) × (failure_of (read_as profile kind) payload ≡ Some failure)
    × ((x : ℕ) → failure.offset ≡ Some x → IsTrue (is_in e.offset e.length x)))
    ⊎ (kind ≡ status_kind extended)
    × ((status : Status) × (status_of extended payload ≡ Some status) × IsStatus e status)

-- where the last message of the reply to a BLOCK_STATUS has come, none states a failure and the length is not 0, each
-- context in force that it asks has its status (proto.md, "Structured reply types"; what a filter asks is this
-- project's choice)
abbrev pub TellsAllAtEnd : Operation → Message → Type 0
TellsAllAtEnd e m = IsTrue (ends_reply m) → has_failed (with_reply e m) ≡ false
    → e.command ≡ commands.BLOCK_STATUS → e.length ≢ 0 → IsTrue (are_settled (is_settled (with_reply e m)) e.contexts)

-- a simple reply comes alone, not to a READ where structured replies are in force, and not as the success of a
-- BLOCK_STATUS of a context in force; a chunk needs structured replies, and one with an extended header has the offset
-- of its request
abbrev pub IsReplyAfter : Profile → (structured : Bool) → Operation → (prefix : List Message) → Message → Type 0
IsReplyAfter profile structured e prefix (Simple error cookie payload) =
    (prefix ≡ []) × (e.command ≡ commands.READ → structured ≡ false) × (IsTrue (asks_status e) → error ≢ 0)
IsReplyAfter profile structured e prefix (Chunk flags kind cookie payload) =
    (structured ≡ true) × FitsRequest profile false (record e { replies = prefix }) flags kind payload
    × TellsAllAtEnd (record e { replies = prefix }) (Chunk flags kind cookie payload)
IsReplyAfter profile structured e prefix (ExtendedChunk flags kind cookie offset payload) =
    (structured ≡ true) × FitsRequest profile true (record e { replies = prefix }) flags kind payload
    × TellsAllAtEnd (record e { replies = prefix }) (ExtendedChunk flags kind cookie offset payload)
    × (offset ≡ e.offset)
IsReplyAfter profile structured e prefix _ = ⊥

-- a reply between others: it has the request's cookie, and none comes after the one that ends the reply
pub record IsReplyBetween (profile : Profile) (structured : Bool) (e : Operation) (prefix : List Message) (m : Message)
    (back : List Message) : Type 0 where
  pub cookie : cookie_of m ≡ Some e.cookie
  pub ends : IsTrue (ends_reply m) → back ≡ []
  pub fits : IsReplyAfter profile structured e prefix m

-- of each request of a run
abbrev pub RepliesAreWhole : Type 0
RepliesAreWhole = (profile : Profile) (items : List Item) → IsRunOf profile items
    → (k : ℕ) (e : Operation) (prefix back : List Message) (m : Message) →
    operation k (operations_of items) ≡ Some e → e.replies ≡ prefix ++ m ∷ back
    → IsReplyBetween profile (ends_at start items).core.structured e prefix m back
