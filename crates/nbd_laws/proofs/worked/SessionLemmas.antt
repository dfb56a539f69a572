-- Messages and parts of the worked examples.
use Rattle.nbd_laws.proofs.Common.{ℕ, List, [], ◌∷◌, ◌++◌, length, map, flat_map, big_bytes, Message, Greeting, ClientFlags, Choice, Answer, Request, Simple, Chunk, Client, enc, Item, Byte, Starts, Completes, block, side}
use Rattle.nbd_wire.specs.declared.answers.TheConstants as answers
use Rattle.nbd_wire.specs.declared.chunks.TheConstants as chunks
use Rattle.nbd_wire.specs.declared.commands.TheConstants as commands
use Rattle.nbd_wire.specs.declared.options.TheConstants as options

abbrev pub read : (cookie offset len : ℕ) → Message
read cookie offset len = Request 0 commands.READ cookie offset len []

abbrev pub write : (cookie offset : ℕ) (bytes : List ℕ) → Message
write cookie offset bytes = Request 0 commands.WRITE cookie offset (length bytes) bytes

abbrev pub trim : (cookie offset len : ℕ) → Message
trim cookie offset len = Request 0 commands.TRIM cookie offset len []

abbrev pub zero_out : (cookie offset len : ℕ) → Message
zero_out cookie offset len = Request 0 commands.WRITE_ZEROES cookie offset len []

-- a request with flags
abbrev pub flagged : (flags command cookie offset len : ℕ) (bytes : List ℕ) → Message
flagged flags command cookie offset len bytes = Request flags command cookie offset len bytes

abbrev pub disconnect : Message
disconnect = Request 0 commands.DISC 9 0 0 []

abbrev pub gives : (cookie : ℕ) (bytes : List ℕ) → Message
gives cookie bytes = Simple 0 cookie bytes

abbrev pub succeeds : (cookie : ℕ) → Message
succeeds cookie = gives cookie []

abbrev pub fails : (cookie error : ℕ) → Message
fails cookie error = Simple error cookie []

abbrev pub content : (cookie offset : ℕ) (bytes : List ℕ) → Message
content cookie offset bytes = Chunk 0 chunks.OFFSET_DATA cookie (big_bytes 8 offset ++ bytes)

abbrev pub hole : (cookie offset size : ℕ) → Message
hole cookie offset size = Chunk 0 chunks.OFFSET_HOLE cookie (big_bytes 8 offset ++ big_bytes 4 size)

abbrev pub done : (cookie : ℕ) → Message
done cookie = Chunk chunks.DONE chunks.NONE cookie []

-- an error chunk with an offset and no text, the last of its reply
abbrev pub broken : (cookie error offset : ℕ) → Message
broken cookie error offset = Chunk chunks.DONE chunks.ERROR_OFFSET cookie (big_bytes 4 error ++ big_bytes 2 0 ++ big_bytes 8 offset)

-- all bytes but the last
abbrev pub but_last : List ℕ → List ℕ
but_last [] = []
but_last (b ∷ []) = []
but_last (b ∷ c ∷ bytes) = b ∷ but_last (c ∷ bytes)

-- the last byte alone
abbrev pub only_last : List ℕ → List ℕ
only_last [] = []
only_last (b ∷ []) = b ∷ []
only_last (b ∷ c ∷ bytes) = only_last (c ∷ bytes)

-- a client's message whose last byte comes after other items
abbrev pub within : Message → List Item → List Item
within m items = Starts Client m ∷ map (λ b. Byte Client b) (but_last (enc m)) ++ items ++ map (λ b. Byte Client b) (only_last (enc m)) ++ Completes Client m ∷ []

-- these messages, one after the other
abbrev pub sends : List Message → List Item
sends messages = flat_map (λ m. block (side m) m) messages

-- the negotiation of an export of 8 bytes with the flags HAS_FLAGS, SEND_FLUSH, SEND_FUA, SEND_TRIM and SEND_WRITE_ZEROES
abbrev pub greeted : List Message
greeted = Greeting 3 ∷ ClientFlags 3 ∷ []

abbrev pub structured : List Message
structured = Choice options.STRUCTURED_REPLY [] ∷ Answer options.STRUCTURED_REPLY answers.ACK [] ∷ []

abbrev pub gone_with : ℕ → List Message
gone_with flags =
    Choice options.GO (big_bytes 6 0)
    ∷ Answer options.GO answers.INFO (big_bytes 2 0 ++ big_bytes 8 8 ++ big_bytes 2 flags)
    ∷ Answer options.GO answers.ACK []
    ∷ []

abbrev pub gone : List Message
gone = gone_with 109
