-- What is printed of contents is read again.
use Rattle.nbd_lines.proofs.Common.{◌≡◌, ℕ, zero, suc, ◌+◌, ◌%◌, ◌==◌, ◌^◌, ◌<◌, ◌≤◌, Bool, true, false, if◌then◌else◌, List, [], ◌∷◌, ◌++◌, length, refl, sym, ap, ◌∙◌, subst, arith, append_assoc, append-nil, length-append, codes, decimal, decode_of-encode_lower, eqb-true, Option, Some, None, IsBytes, IsNumber, encode_lower, IsUnbroken, line_feed, space, AreContentsLines, AreHeld, Held, held, IsContentsLine, IsContentsText, IsValue, Piece, Told, are_zeroes, before_pieces, cut, join, joined, known, next-line, no-line, part, piece-line, piece_line, piece_lines, printed, shown, size-line, unknown, value_text, word, zeroes}
use Rattle.nbd_lines.proofs.WrittenLemmas.{printed_number, unbroken_digits, unbroken_number}
use Rattle.nbd_capture.specs.Contents.{told, Told.nothing}
use Rattle.nbd_capture.proofs.{ContentsTextLemmas.one_reading, DigitLemmas.spelled, HeldLemmas.{length-unknown, length-zeroes}, ReadingStepLemmas.unbroken-append}
use Rattle.nbd_export.specs.{Extents.{byte_of, size_of}, Ranges.AreSameBelow, declared.extents.Extents.Extents}
use Rattle.nbd_export.proofs.HeldLemmas.{held_from-same}
use Rattle.std.proofs.{Common.{map, replicate}, lemmas.List.replicate-append-replicate}
use Rattle.std.specs.List.{AllByRecursion}

-- ---- what pieces tell

all_told : List Piece → Held
all_told [] = []
all_told (p ∷ pieces) = told p ++ all_told pieces

told_join : (p : Piece) (pieces : List Piece) → all_told (join p pieces) ≡ told p ++ all_told pieces
unfolding all_told
told_join p [] = grind (arith, all_told)
told_join (unknown m) (unknown n ∷ pieces) = ap (λ l. l ++ all_told pieces) (sym (replicate-append-replicate {A = Option ℕ} m n None)) ∙ append_assoc (told (unknown m)) (told (unknown n)) (all_told pieces)
told_join (unknown m) (zeroes n ∷ pieces) = refl
told_join (unknown m) (known bytes ∷ pieces) = refl
told_join (zeroes m) (unknown n ∷ pieces) = refl
told_join (zeroes m) (zeroes n ∷ pieces) = ap (λ l. l ++ all_told pieces) (sym (replicate-append-replicate {A = Option ℕ} m n (Some 0))) ∙ append_assoc (told (zeroes m)) (told (zeroes n)) (all_told pieces)
told_join (zeroes m) (known bytes ∷ pieces) = refl
told_join (known bytes) (p ∷ pieces) = refl

map_zeroes_more : (b : ℕ) (bytes : List ℕ) (t : Bool) → (b == 0) ≡ t → (are_zeroes bytes ≡ true → replicate (length bytes) (Some 0) ≡ map Some bytes)
    → (if t then are_zeroes bytes else false) ≡ true → replicate (length (b ∷ bytes)) (Some 0) ≡ map Some (b ∷ bytes)
map_zeroes_more b bytes t is more e = grind (arith, eqb-true)

map_zeroes : (bytes : List ℕ) → are_zeroes bytes ≡ true → replicate (length bytes) (Some 0) ≡ map Some bytes
map_zeroes [] e = refl
map_zeroes (b ∷ bytes) e = map_zeroes_more b bytes (b == 0) refl (map_zeroes bytes) e

told_shown : (p : Piece) → told (shown p) ≡ told p
told_shown p = grind (arith, map_zeroes)

told_joined : (pieces : List Piece) → all_told (joined pieces) ≡ all_told pieces
unfolding all_told
told_joined [] = refl
told_joined (p ∷ pieces) = told_join (shown p) (joined pieces) ∙ ap (λ l. l ++ all_told (joined pieces)) (told_shown p) ∙ ap (λ l. told p ++ l) (told_joined pieces)

told_before : (byte : ℕ) (t : Bool) (pieces : List Piece) → all_told (before_pieces byte t pieces) ≡ Some byte ∷ all_told pieces
unfolding all_told
told_before byte t pieces = grind arith

told_cut : (offset : ℕ) (bytes : Held) → all_told (cut offset bytes) ≡ bytes
unfolding all_told cut
told_cut offset [] = refl
told_cut offset (None ∷ bytes) = ap (λ l. None ∷ l) (told_cut (offset + 1) bytes)
told_cut offset (Some byte ∷ bytes) = told_before byte ((offset + 1) % 32 == 0) (cut (offset + 1) bytes) ∙ ap (λ l. Some byte ∷ l) (told_cut (offset + 1) bytes)

-- ---- pieces that can be printed

abbrev IsFine : Piece → Type 0
IsFine (unknown n) = 0 < n
IsFine (zeroes n) = 0 < n
IsFine (known bytes) = (0 < length bytes) × AllByRecursion (λ b. b < 256) bytes

abbrev AreFine : List Piece → Type 0
AreFine pieces = AllByRecursion IsFine pieces

fine_join : (p : Piece) (pieces : List Piece) → IsFine p → AreFine pieces → AreFine (join p pieces)
fine_join p pieces f fs = grind arith

fine_shown : (p : Piece) → IsFine p → IsFine (shown p)
fine_shown p f = grind arith

fine_joined : (pieces : List Piece) → AreFine pieces → AreFine (joined pieces)
fine_joined [] fs = tt
fine_joined (p ∷ pieces) fs = fine_join (shown p) (joined pieces) (fine_shown p fs.0) (fine_joined pieces fs.1)

fine_before : (byte : ℕ) (t : Bool) (pieces : List Piece) → byte < 256 → AreFine pieces → AreFine (before_pieces byte t pieces)
fine_before byte t pieces small fs = grind arith

fine_cut : (offset : ℕ) (bytes : Held) → AreHeld bytes → AreFine (cut offset bytes)
unfolding cut
fine_cut offset [] h = tt
fine_cut offset (None ∷ bytes) h = (omega arith, fine_cut (offset + 1) bytes h.1)
fine_cut offset (Some byte ∷ bytes) h = fine_before byte ((offset + 1) % 32 == 0) (cut (offset + 1) bytes) h.0 (fine_cut (offset + 1) bytes h.1)

-- ---- lines

are_bytes : (bytes : List ℕ) → AllByRecursion (λ b. b < 256) bytes → IsBytes bytes
are_bytes [] h i = omega arith
are_bytes (b ∷ bytes) h zero = h.0
are_bytes (b ∷ bytes) h (suc i) = are_bytes bytes h.1 i

value_read : (p : Piece) → IsFine p → length (told p) < 2 ^ 64 → IsValue p (value_text p)
value_read (unknown n) f fits = (printed_number n (let l = length-unknown n in omega (arith, l, fits)), f)
value_read (zeroes n) f fits = (printed_number n (let l = length-zeroes n in omega (arith, l, fits)), f)
value_read (known bytes) f fits = (spelled (encode_lower bytes) bytes (decode_of-encode_lower bytes (are_bytes bytes f.1)), f.0)

unbroken_value : (p : Piece) → IsFine p → length (told p) < 2 ^ 64 → IsUnbroken (value_text p)
unbroken_value (unknown n) f fits = unbroken_number n (let l = length-unknown n in omega (arith, l, fits))
unbroken_value (zeroes n) f fits = unbroken_number n (let l = length-zeroes n in omega (arith, l, fits))
unbroken_value (known bytes) f fits = unbroken_digits bytes (are_bytes bytes f.1)

unbroken_word : (p : Piece) → IsUnbroken (word p)
unbroken_word p = grind arith

line_text : (p : Piece) (offset : ℕ) (rest : List ℕ) → piece_line offset p ++ rest ≡ (word p ++ space ∷ (decimal offset ++ space ∷ value_text p)) ++ line_feed ∷ rest
line_text p offset rest = grind (arith, append_assoc)

lines_read : (n : ℕ) (before : Held) (offset : ℕ) (pieces : List Piece) → offset ≡ length before → AreFine pieces → length (before ++ all_told pieces) ≤ n → n < 2 ^ 63
    → AreContentsLines (part n before) (piece_lines offset pieces) (part n (before ++ all_told pieces))
unfolding all_told
lines_read n before offset [] is fs fits small = subst (λ l. AreContentsLines (part n before) [] (part n l)) (sym (append-nil before)) (no-line (part n before))
lines_read n before offset (p ∷ pieces) is fs fits small =
    let all = length-append before (told p ++ all_told pieces) in
    let both = length-append (told p) (all_told pieces) in
    let first = length-append before (told p) in
    let number : IsNumber (decimal offset) (length before) = subst (λ m. IsNumber (decimal offset) m) is (printed_number offset (omega (arith, is, all, fits, small))) in
    let form : IsContentsLine (part n before) (word p ++ space ∷ (decimal offset ++ space ∷ value_text p)) (part n (before ++ told p)) =
    piece-line n before p (decimal offset) (value_text p) number (value_read p fs.0 (omega (arith, all, both, fits, small))) (omega (arith, all, both, first, fits)) in
    let unbroken : IsUnbroken (word p ++ space ∷ (decimal offset ++ space ∷ value_text p)) =
    unbroken-append (word p) _ (unbroken_word p) (omega arith, unbroken-append (decimal offset) _ (unbroken_number offset (omega (arith, is, all, fits, small))) (omega arith, unbroken_value p fs.0 (omega (arith, all, both, fits, small)))) in
    let joined_up : (before ++ told p) ++ all_told pieces ≡ before ++ (told p ++ all_told pieces) = append_assoc before (told p) (all_told pieces) in
    let len : length ((before ++ told p) ++ all_told pieces) ≤ n = omega (arith, ap length joined_up, fits) in
    let more = lines_read n (before ++ told p) (offset + length (told p)) pieces (omega (arith, first, is)) fs.1 len small in
    subst (λ t. AreContentsLines (part n before) t (part n (before ++ (told p ++ all_told pieces)))) (sym (line_text p offset (piece_lines (offset + length (told p)) pieces)))
    (next-line (part n before) (word p ++ space ∷ (decimal offset ++ space ∷ value_text p)) (part n (before ++ told p)) (piece_lines (offset + length (told p)) pieces) _ unbroken form
    (subst (λ l. AreContentsLines (part n (before ++ told p)) (piece_lines (offset + length (told p)) pieces) (part n l)) joined_up more))

-- what is printed is read as the same contents
pub printed_read : (bytes : Held) → length bytes < 2 ^ 63 → AreHeld bytes → IsContentsText (printed bytes) bytes
unfolding all_told
printed_read bytes small h =
    let n = length bytes in
    let pieces = joined (cut 0 bytes) in
    let same : all_told pieces ≡ bytes = told_joined (cut 0 bytes) ∙ told_cut 0 bytes in
    let fits : n < 2 ^ 64 = omega (arith, small) in
    let unbroken : IsUnbroken (codes "size" ++ space ∷ decimal n) = (omega arith, (omega arith, (omega arith, (omega arith, (omega arith, unbroken_number n fits))))) in
    let lines = lines_read n [] 0 pieces refl (fine_joined (cut 0 bytes) (fine_cut 0 bytes h)) (let len = ap length same in omega (arith, len)) small in
    let text : printed bytes ≡ (codes "size" ++ space ∷ decimal n) ++ line_feed ∷ piece_lines 0 pieces = ap (λ l. codes "size" ++ space ∷ l) (append_assoc (decimal n) (line_feed ∷ []) (piece_lines 0 pieces)) in
    subst (λ t. AreContentsLines nothing t (part n bytes)) (sym text)
    (next-line nothing (codes "size" ++ space ∷ decimal n) (part n []) (piece_lines 0 pieces) (part n bytes) unbroken (size-line (decimal n) n (printed_number n fits) small)
    (subst (λ l. AreContentsLines (part n []) (piece_lines 0 pieces) (part n l)) same lines))

-- contents that are printed alike are the same
pub printed_apart : (a b : Held) → length a < 2 ^ 63 → length b < 2 ^ 63 → AreHeld a → AreHeld b → printed a ≡ printed b → a ≡ b
printed_apart a b la lb ha hb e = one_reading (printed b) a b (subst (λ t. IsContentsText t a) e (printed_read a la ha)) (printed_read b lb hb)

-- a size that a text states is below 2^63
sized : Told → Type 0
sized nothing = Unit {0}
sized (part n bytes) = n < 2 ^ 63

sized_line : (before : Told) (line : List ℕ) (after : Told) → IsContentsLine before line after → sized before → sized after
unfolding sized
sized_line before line after h k = grind arith

sized_lines : (before : Told) (text : List ℕ) (after : Told) → AreContentsLines before text after → sized before → sized after
sized_lines before text after (no-line _) h = h
sized_lines before text after (next-line _ bytes with_it rest _ u f r) h = sized_lines with_it rest after r (sized_line before bytes with_it f h)

pub small_size : (text : List ℕ) (bytes : Held) → IsContentsText text bytes → length bytes < 2 ^ 63
unfolding sized
small_size text bytes r = sized_lines nothing text (part (length bytes) bytes) r tt

-- the same bytes print the same
pub same_print : (e f : Extents) → size_of e ≡ size_of f → AreSameBelow (size_of e) (byte_of e) (byte_of f) → printed (held e) ≡ printed (held f)
same_print e f size same = grind (arith, held_from-same)
