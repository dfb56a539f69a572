-- A message whose fields fit is sent in bytes.
use Rattle.nbd_laws.proofs.Common.{ℕ, zero, suc, ◌<◌, List, [], ◌∷◌, ◌++◌, length, replicate, if◌then◌else◌, Bool, true, false, arith, Message, Greeting, ClientFlags, Choice, Answer, Exported, Request, Simple, Chunk, ExtendedRequest, ExtendedChunk, AreBytes, enc, head, tail, IsSendable}
use Rattle.std.proofs.Common.{◌/◌, ◌^◌, mod-lt}
use Rattle.std.specs.Int.{byte_at, bytes_high_first}
use Rattle.nbd_wire.specs.declared.head_lengths.TheConstants as head_lengths
use Rattle.nbd_wire.specs.declared.magics.TheConstants as magics

both : (xs ys : List ℕ) → AreBytes xs → AreBytes ys → AreBytes (xs ++ ys)
both [] ys h k = k
both (x ∷ xs) ys h k = (h.0, both xs ys h.1 k)

byte_below : (n x : ℕ) → byte_at n x < 256
byte_below zero x = mod-lt x (omega arith)
byte_below (suc n) x = mod-lt (x / 256 ^ suc n) (omega arith)

number : (n x : ℕ) → AreBytes (bytes_high_first n x)
number zero x = tt
number (suc n) x = (byte_below n x, number n x)

zeroes : (n : ℕ) → AreBytes (replicate n 0)
zeroes zero = tt
zeroes (suc n) = (omega arith, zeroes n)

padding : (padded : Bool) (n : ℕ) → AreBytes (if padded then replicate n 0 else [])
padding true n = zeroes n
padding false n = tt

-- numbers of so many bytes each, and what stands after them
abbrev laid : List (ℕ × ℕ) → List ℕ → List ℕ
laid [] rest = rest
laid (field ∷ fields) rest = bytes_high_first field.0 field.1 ++ laid fields rest

laid_bytes : (fields : List (ℕ × ℕ)) (rest : List ℕ) → AreBytes rest → AreBytes (laid fields rest)
laid_bytes [] rest h = h
laid_bytes (field ∷ fields) rest h = both (bytes_high_first field.0 field.1) (laid fields rest) (number field.0 field.1) (laid_bytes fields rest h)

-- a message that may stand in a run is sent in bytes
pub message_bytes : (m : Message) → IsSendable m → AreBytes (enc m)
unfolding enc head tail IsSendable
message_bytes (Greeting flags) h = laid_bytes ((8, magics.GREETING_MAGIC) ∷ (8, magics.OPTION_MAGIC) ∷ (2, flags) ∷ []) [] tt
message_bytes (ClientFlags flags) h = laid_bytes ((4, flags) ∷ []) [] tt
message_bytes (Choice id payload) h = laid_bytes ((8, magics.OPTION_MAGIC) ∷ (4, id) ∷ (4, length payload) ∷ []) payload h.1.1
message_bytes (Answer option kind payload) h = laid_bytes ((8, magics.ANSWER_MAGIC) ∷ (4, option) ∷ (4, kind) ∷ (4, length payload) ∷ []) payload h.2.1
message_bytes (Exported size flags padded) h = laid_bytes ((8, size) ∷ (2, flags) ∷ []) (tail (Exported size flags padded)) (padding padded head_lengths.PADDING)
message_bytes (Request flags command cookie offset len payload) h = laid_bytes ((4, magics.REQUEST_MAGIC) ∷ (2, flags) ∷ (2, command) ∷ (8, cookie) ∷ (8, offset) ∷ (4, len) ∷ []) payload h.6
message_bytes (Simple error cookie payload) h = laid_bytes ((4, magics.SIMPLE_MAGIC) ∷ (4, error) ∷ (8, cookie) ∷ []) payload h.2.1
message_bytes (Chunk flags kind cookie payload) h = laid_bytes ((4, magics.CHUNK_MAGIC) ∷ (2, flags) ∷ (2, kind) ∷ (8, cookie) ∷ (4, length payload) ∷ []) payload h.3.1
message_bytes (ExtendedRequest flags command cookie offset len payload) h = laid_bytes ((4, magics.EXTENDED_REQUEST_MAGIC) ∷ (2, flags) ∷ (2, command) ∷ (8, cookie) ∷ (8, offset) ∷ (8, len) ∷ []) payload h.6.1
message_bytes (ExtendedChunk flags kind cookie offset payload) h = laid_bytes ((4, magics.EXTENDED_CHUNK_MAGIC) ∷ (2, flags) ∷ (2, kind) ∷ (8, cookie) ∷ (8, offset) ∷ (8, length payload) ∷ []) payload h.4.1
