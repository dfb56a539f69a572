-- The chunks of a capture text have fewer bytes than the text.
use Rattle.nbd_tool.proofs.Common.{◌≡◌, ℕ, ◌+◌, ◌≤◌, List, [], ◌∷◌, length, refl, sym, ap, ◌∙◌, arith, length-append, sum_by, length-map, sum_by-append, sum_by-cons, Side, empty, line_feed, Chunk, IsCaptureLine, IsCaptureText, AreDigits, chunk, blank, comment, none, byte, side_pairs, flat_of}
use Rattle.nbd_capture.specs.Lines.{line}

digits_are_two : (digits bytes : List ℕ) → AreDigits digits bytes → length bytes ≤ length digits
digits_are_two _ _ none = omega arith
digits_are_two _ _ (byte first second high low digits bytes f s more) = let h = digits_are_two digits bytes more in omega (arith, h)

line_size : (bytes : List ℕ) (said : List Chunk) → IsCaptureLine bytes said → sum_by (λ (c : Chunk). length c.bytes) said ≤ length bytes
line_size _ _ (chunk side digits bytes are) = let h = digits_are_two digits bytes are in omega (arith, h)
line_size _ _ blank = omega arith
line_size _ _ (comment anything) = omega arith

text_size : (text : List ℕ) (chunks : List Chunk) → IsCaptureText text chunks → sum_by (λ (c : Chunk). length c.bytes) chunks ≤ length text
text_size _ _ empty = omega arith
text_size _ _ (line bytes said rest values unbroken form more) =
    let h = line_size bytes said form in
    let k = text_size rest values more in
    omega (arith, h, k, sum_by-append (λ (c : Chunk). length c.bytes) said values, length-append bytes (line_feed ∷ rest))

length-sent : (side : Side) (bytes : List ℕ) → length (side_pairs side bytes) ≡ length bytes
length-sent side bytes = length-map bytes (λ b. record { from = side; byte = b })

sum-flat : (chunks : List Chunk) → sum_by (λ (c : Chunk). length c.bytes) chunks ≡ length (flat_of chunks)
sum-flat [] = refl
sum-flat (c ∷ chunks) =
    sum_by-cons (λ (c : Chunk). length c.bytes) c chunks
    ∙ ap (λ n. length c.bytes + n) (sum-flat chunks)
    ∙ sym (length-append (side_pairs c.side c.bytes) (flat_of chunks) ∙ ap (λ n. n + length (flat_of chunks)) (length-sent c.side c.bytes))

-- the chunks of a capture text have at most as many bytes as the text
pub flat-le : (text : List ℕ) (chunks : List Chunk) → IsCaptureText text chunks → length (flat_of chunks) ≤ length text
flat-le text chunks h = let k = text_size text chunks h in omega (arith, k, sum-flat chunks)
