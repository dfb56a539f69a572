-- A chunk has fewer bytes than the lines that were read for it.
use Rattle.nbd_capture.proofs.Common.{◌≡◌, ℕ, ◌+◌, ◌<◌, ◌≤◌, List, [], ◌∷◌, ◌++◌, length, arith, length-append, empty, line, AreDigits, Chunk, IsCaptureLine, IsCaptureText, none, byte, Reading, Reads}

-- the chunks' bytes, and one more for each chunk
size : List Chunk → ℕ
size [] = 0
size (c ∷ cs) = length c.bytes + 1 + size cs

size-append : (xs ys : List Chunk) → size (xs ++ ys) ≡ size xs + size ys
unfolding size
size-append [] ys = omega arith
size-append (x ∷ xs) ys = let more = size-append xs ys in omega (arith, more)

digits_longer : (digits bytes : List ℕ) → AreDigits digits bytes → length bytes ≤ length digits
digits_longer digits bytes none = omega arith
digits_longer digits bytes (byte first second high low ds bs f s more) = let longer = digits_longer ds bs more in omega (arith, longer)

line_longer : (bytes : List ℕ) (said : List Chunk) → IsCaptureLine bytes said → size said ≤ length bytes
unfolding size
line_longer bytes said h = grind (arith, digits_longer)

text_longer : (text : List ℕ) (chunks : List Chunk) → IsCaptureText text chunks → size chunks ≤ length text
unfolding size
text_longer text chunks empty = omega arith
text_longer text chunks (line bytes said rest values u f r) = grind (arith, line_longer, length-append, size-append, text_longer rest values r)

pub chunk_shrinks : (old new : Reading) (c : Chunk) → Reads old new (c ∷ []) → length c.bytes + new.room < old.room
unfolding size
chunk_shrinks old new c reads = let longer = text_longer reads.bytes (c ∷ []) reads.is_text in omega (arith, longer, reads.takes.fits)
