-- What is a head with these fields: each in its type's range, and the bytes those of the layout. An encoding is a head,
-- which is read as the message's own fields, and after it what follows.
use Rattle.std.specs.Prelude.{◌≡◌, ℕ, ◌<◌, ◌^◌, List, true, false, Some, None, length}
use Rattle.nbd_wire.specs.declared.{heads.{negotiation.{ChoiceHead.ChoiceHead, AnswerHead.AnswerHead}, transmission.{RequestHead.RequestHead, SimpleHead.SimpleHead, ChunkHead.ChunkHead}}, message.Message.{Message, TheVariants.{Greeting, ClientFlags, Choice, Answer, Exported, Request, Simple, Chunk, ExtendedRequest, ExtendedChunk}}, head_lengths.TheConstants.{GREETING, CLIENT_FLAGS, CHOICE, ANSWER, EXPORT, REQUEST, SIMPLE, CHUNK, EXTENDED_REQUEST, EXTENDED_CHUNK}}
use Rattle.nbd_wire.specs.codec.Layouts.{greeting_bytes, client_flags_bytes, choice_bytes, answer_bytes, export_bytes, request_bytes, simple_bytes, chunk_bytes, extended_request_bytes, extended_chunk_bytes}

-- a greeting (proto.md, "Newstyle negotiation")
unfoldable pub IsGreetingHead : ℕ → List ℕ → Type 0
IsGreetingHead flags bytes = (flags < 2 ^ 16) × (bytes ≡ greeting_bytes flags)

-- the client's flags (proto.md, "Newstyle negotiation")
unfoldable pub IsClientFlagsHead : ℕ → List ℕ → Type 0
IsClientFlagsHead flags bytes = (flags < 2 ^ 32) × (bytes ≡ client_flags_bytes flags)

-- an option's head (proto.md, "Newstyle negotiation")
unfoldable pub IsChoiceHead : ChoiceHead → List ℕ → Type 0
IsChoiceHead h bytes = (h.id < 2 ^ 32) × (h.length < 2 ^ 32) × (bytes ≡ choice_bytes h.id h.length)

-- an answer's head (proto.md, "Fixed newstyle negotiation")
unfoldable pub IsAnswerHead : AnswerHead → List ℕ → Type 0
IsAnswerHead h bytes = (h.option < 2 ^ 32) × (h.kind < 2 ^ 32) × (h.length < 2 ^ 32)
    × (bytes ≡ answer_bytes h.option h.kind h.length)

-- the answer to EXPORT_NAME, but for the zeroes after it (proto.md, "Newstyle negotiation")
unfoldable pub IsExportHead : ℕ → ℕ → List ℕ → Type 0
IsExportHead size flags bytes = (size < 2 ^ 64) × (flags < 2 ^ 16) × (bytes ≡ export_bytes size flags)

-- a request's head (proto.md, "Request message")
unfoldable pub IsRequestHead : RequestHead → List ℕ → Type 0
IsRequestHead h bytes =
    (h.flags < 2 ^ 16) × (h.command < 2 ^ 16) × (h.cookie < 2 ^ 64) × (h.offset < 2 ^ 64) × (h.length < 2 ^ 32)
    × (bytes ≡ request_bytes h.flags h.command h.cookie h.offset h.length) × (h.extended ≡ false)

-- a simple reply's head (proto.md, "Simple reply message")
unfoldable pub IsSimpleHead : SimpleHead → List ℕ → Type 0
IsSimpleHead h bytes = (h.error < 2 ^ 32) × (h.cookie < 2 ^ 64) × (bytes ≡ simple_bytes h.error h.cookie)

-- a chunk's head (proto.md, "Structured reply chunk message")
unfoldable pub IsChunkHead : ChunkHead → List ℕ → Type 0
IsChunkHead h bytes =
    (h.flags < 2 ^ 16) × (h.kind < 2 ^ 16) × (h.cookie < 2 ^ 64) × (h.length < 2 ^ 32)
    × (bytes ≡ chunk_bytes h.flags h.kind h.cookie h.length) × (h.at ≡ None)

-- the extended header of a request (its magic number: proto.md, "Reserved Magic values"; the rest: this project's
-- choice)
unfoldable pub IsExtendedRequestHead : RequestHead → List ℕ → Type 0
IsExtendedRequestHead h bytes =
    (h.flags < 2 ^ 16) × (h.command < 2 ^ 16) × (h.cookie < 2 ^ 64) × (h.offset < 2 ^ 64) × (h.length < 2 ^ 64)
    × (bytes ≡ extended_request_bytes h.flags h.command h.cookie h.offset h.length) × (h.extended ≡ true)

-- the extended header of a chunk (its magic number: proto.md, "Reserved Magic values"; the rest: this project's choice)
unfoldable pub IsExtendedChunkHead : ChunkHead → List ℕ → Type 0
IsExtendedChunkHead h bytes =
    (offset : ℕ) × (h.flags < 2 ^ 16) × (h.kind < 2 ^ 16) × (h.cookie < 2 ^ 64) × (offset < 2 ^ 64)
    × (h.length < 2 ^ 64) × (bytes ≡ extended_chunk_bytes h.flags h.kind h.cookie offset h.length)
    × (h.at ≡ Some offset)

-- how many bytes a message's head has
unfoldable pub head_length : Message → ℕ
head_length (Greeting _) = GREETING
head_length (ClientFlags _) = CLIENT_FLAGS
head_length (Choice _ _) = CHOICE
head_length (Answer _ _ _) = ANSWER
head_length (Exported _ _ _) = EXPORT
head_length (Request _ _ _ _ _ _) = REQUEST
head_length (Simple _ _ _) = SIMPLE
head_length (Chunk _ _ _ _) = CHUNK
head_length (ExtendedRequest _ _ _ _ _ _) = EXTENDED_REQUEST
head_length (ExtendedChunk _ _ _ _ _) = EXTENDED_CHUNK

-- the bytes are a head with the message's own fields
unfoldable pub IsHeadOf : Message → List ℕ → Type 0
IsHeadOf (Greeting flags) bytes = IsGreetingHead flags bytes
IsHeadOf (ClientFlags flags) bytes = IsClientFlagsHead flags bytes
IsHeadOf (Choice id payload) bytes = IsChoiceHead (record { id = id; length = length payload }) bytes
IsHeadOf (Answer option kind payload) bytes =
    IsAnswerHead (record { option = option; kind = kind; length = length payload }) bytes
IsHeadOf (Exported size flags _) bytes = IsExportHead size flags bytes
IsHeadOf (Request flags command cookie offset len _) bytes =
    IsRequestHead
    (record { extended = false; flags = flags; command = command; cookie = cookie; offset = offset; length = len })
    bytes
IsHeadOf (Simple error cookie _) bytes = IsSimpleHead (record { error = error; cookie = cookie }) bytes
IsHeadOf (Chunk flags kind cookie payload) bytes =
    IsChunkHead (record { at = None; flags = flags; kind = kind; cookie = cookie; length = length payload }) bytes
IsHeadOf (ExtendedRequest flags command cookie offset len _) bytes =
    IsExtendedRequestHead
    (record { extended = true; flags = flags; command = command; cookie = cookie; offset = offset; length = len }) bytes
IsHeadOf (ExtendedChunk flags kind cookie offset payload) bytes =
    IsExtendedChunkHead
    (record { at = Some offset; flags = flags; kind = kind; cookie = cookie; length = length payload }) bytes
