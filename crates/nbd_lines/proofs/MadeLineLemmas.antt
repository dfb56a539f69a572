-- What the chunk lines of a script's messages are as a capture.
use Rattle.nbd_lines.proofs.{Common.{◌≡◌, ℕ, zero, suc, ◌<◌, true, List, [], ◌∷◌, ◌++◌, refl, ap, subst, arith, map, replicate, flat_map, byte_at, AllByRecursion, IsBytes, Message, AreBytes, enc, head, tail, slice_index-byte, IsSendable, IsCaptureText, chunk_line, chunk_lines, made_chunk, made_line}, PrintableLemmas.sendable_bytes}
use Rattle.nbd_wire.specs.declared.message.Message.TheVariants as messages
use Rattle.nbd_capture.specs.Capture.{Chunk}

below : (k n : ℕ) → byte_at k n < 256
below k n = grind arith

join_are : (a b : List ℕ) → AreBytes a → AreBytes b → AreBytes (a ++ b)
join_are [] b p q = q
join_are (x ∷ a) b p q = (p.0, join_are a b p.1 q)

zeroes : (n : ℕ) → AreBytes (replicate n 0)
zeroes zero = tt
zeroes (suc n) = (omega arith, zeroes n)

head_bytes : (m : Message) → AreBytes (head m)
unfolding head
head_bytes (messages.Greeting flags) = search below
head_bytes m = search below

tail_bytes : (m : Message) → IsSendable m → AreBytes (tail m)
unfolding tail
tail_bytes (messages.Exported size flags true) s = zeroes 124
tail_bytes m s = sendable_bytes m s

enc_bytes : (m : Message) → IsSendable m → IsBytes (enc m)
unfolding enc
enc_bytes m s = slice_index-byte (head m ++ tail m) (join_are (head m) (tail m) (head_bytes m) (tail_bytes m s))

-- the chunks of messages that can be sent have bytes
pub chunks_of_bytes : (all : List Message) → AllByRecursion IsSendable all → AllByRecursion (λ (c : Chunk). IsBytes c.bytes) (map made_chunk all)
chunks_of_bytes [] s = tt
chunks_of_bytes (m ∷ ms) s = (enc_bytes m s.0, chunks_of_bytes ms s.1)

lines_of_chunks : (all : List Message) → flat_map (λ (c : Chunk). chunk_line c.side c.bytes) (map made_chunk all) ≡ chunk_lines all
lines_of_chunks [] = refl
lines_of_chunks (m ∷ ms) = ap (λ l. made_line m ++ l) (lines_of_chunks ms)

pub made_capture : (all : List Message) → IsCaptureText (flat_map (λ (c : Chunk). chunk_line c.side c.bytes) (map made_chunk all)) (map made_chunk all) → IsCaptureText (chunk_lines all) (map made_chunk all)
made_capture all read = subst (λ t. IsCaptureText t (map made_chunk all)) (lines_of_chunks all) read
