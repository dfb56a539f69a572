-- The bytes of a message.
use Rattle.std.specs.Prelude.{ℕ, List, ◌++◌, ◌<◌, ◌∷◌, [], replicate, if◌then◌else◌, length}
use Rattle.nbd_wire.specs.declared.{head_lengths.TheConstants.PADDING, message.Message.{Message, TheVariants.{Greeting, ClientFlags, Choice, Answer, Exported, Request, Simple, Chunk, ExtendedRequest, ExtendedChunk}}, magics.TheConstants.{GREETING_MAGIC, OPTION_MAGIC, ANSWER_MAGIC, REQUEST_MAGIC, SIMPLE_MAGIC, CHUNK_MAGIC, EXTENDED_REQUEST_MAGIC, EXTENDED_CHUNK_MAGIC}}
use Rattle.byteorder.specs.Endian.{big_bytes}

-- the fixed part of a message, from the numbers in it to its bytes; numbers are big-endian (proto.md, "Newstyle
-- negotiation", "Fixed newstyle negotiation", "Request message", "Simple reply message", "Structured reply chunk
-- message"; of extended headers it has the magic numbers, "Reserved Magic values", and the layout is that which libnbd
-- and qemu have)
unfoldable pub head : Message → List ℕ
head (Greeting flags) = big_bytes 8 GREETING_MAGIC ++ big_bytes 8 OPTION_MAGIC ++ big_bytes 2 flags
head (ClientFlags flags) = big_bytes 4 flags
head (Choice id payload) = big_bytes 8 OPTION_MAGIC ++ big_bytes 4 id ++ big_bytes 4 (length payload)
head (Answer option kind payload) =
    big_bytes 8 ANSWER_MAGIC ++ big_bytes 4 option ++ big_bytes 4 kind ++ big_bytes 4 (length payload)
head (Exported size flags padded) = big_bytes 8 size ++ big_bytes 2 flags
head (Request flags command cookie offset len payload) =
    big_bytes 4 REQUEST_MAGIC ++ big_bytes 2 flags ++ big_bytes 2 command ++ big_bytes 8 cookie ++ big_bytes 8 offset
    ++ big_bytes 4 len
head (Simple error cookie payload) = big_bytes 4 SIMPLE_MAGIC ++ big_bytes 4 error ++ big_bytes 8 cookie
head (Chunk flags kind cookie payload) =
    big_bytes 4 CHUNK_MAGIC ++ big_bytes 2 flags ++ big_bytes 2 kind ++ big_bytes 8 cookie
    ++ big_bytes 4 (length payload)
head (ExtendedRequest flags command cookie offset len payload) =
    big_bytes 4 EXTENDED_REQUEST_MAGIC ++ big_bytes 2 flags ++ big_bytes 2 command ++ big_bytes 8 cookie
    ++ big_bytes 8 offset ++ big_bytes 8 len
head (ExtendedChunk flags kind cookie offset payload) =
    big_bytes 4 EXTENDED_CHUNK_MAGIC ++ big_bytes 2 flags ++ big_bytes 2 kind ++ big_bytes 8 cookie
    ++ big_bytes 8 offset ++ big_bytes 8 (length payload)

-- what follows the fixed part: a payload, or the 124 zeroes (proto.md, "Newstyle negotiation")
unfoldable pub tail : Message → List ℕ
tail (Choice _ payload) = payload
tail (Answer _ _ payload) = payload
tail (Exported _ _ padded) = if padded then replicate PADDING 0 else []
tail (Request _ _ _ _ _ payload) = payload
tail (Simple _ _ payload) = payload
tail (Chunk _ _ _ payload) = payload
tail (ExtendedRequest _ _ _ _ _ payload) = payload
tail (ExtendedChunk _ _ _ _ payload) = payload
tail _ = []

-- all bytes of a message
unfoldable pub enc : Message → List ℕ
enc m = head m ++ tail m

-- each number is a byte
abbrev pub AreBytes : List ℕ → Type 0
AreBytes [] = Unit {0}
AreBytes (b ∷ bs) = (b < 256) × AreBytes bs
