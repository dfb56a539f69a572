-- Digits that come in parts, and the lines that they stand in.
use Rattle.nbd_capture.proofs.Common.{◌≡◌, ℕ, ◌+◌, ◌*◌, ◌%◌, ◌≤◌, List, [], ◌∷◌, ◌++◌, length, Some, None, Result, Ok, Err, refl, sym, ap, ◌∙◌, arith, subst, append_assoc, append-nil, ◌⊎◌, IfOk, MatchBool, is_ok, take, slice_get, take-append_seam, length-append, take_all, decode_sized-twice, decode_sized, FromHexError, Side, AreDigits, Chunk, IsCaptureLine, letter, space, none, byte, blank, chunk, comment, Form, Empty, Letter, Digits, Comment, Bad, IsOf, Spell}
use Rattle.nbd_capture.proofs.{DigitLemmas.{decodes, even, spelled}, FormLemmas.{forms, same_parts, silent_sends}}
use Rattle.std.proofs.Common.{Option, MatchResult}

pub join : (a b x y : List ℕ) → AreDigits a x → AreDigits b y → AreDigits (a ++ b) (x ++ y)
join a b x y none d = d
join a b x y (byte first second high low digits bytes df ds rest) d = byte first second high low (digits ++ b) (bytes ++ y) df ds (join digits b bytes y rest d)

-- the digits behind whole bytes are digits
behind : (a b x z : List ℕ) → AreDigits a x → AreDigits (a ++ b) z → (y : List ℕ) × AreDigits b y
behind a b x z none d = (z, d)
behind a b x z (byte first second high low digits bytes df ds rest) (byte first2 second2 high2 low2 digits2 bytes2 df2 ds2 more) = behind digits b bytes bytes2 rest more

-- an even number of the first digits are digits
in_front : (a b z : List ℕ) → length a % 2 ≡ 0 → AreDigits (a ++ b) z → (y : List ℕ) × AreDigits a y
in_front [] b z pairwise d = ([], none)
in_front (c ∷ []) b z pairwise d = absurd (omega (arith, pairwise))
in_front (c ∷ e ∷ a) b z pairwise (byte first second high low digits bytes df ds rest) =
    let more = in_front a b bytes (omega (arith, pairwise)) rest in
    ((high * 16 + low) ∷ more.0, byte first second high low a more.0 df ds more.1)

-- what stands behind is what was decoded, where it was
pub seam : (len : ℕ) (front out rest old : List ℕ) → front ≡ old → len ≡ length old + length out → take len ((front ++ out) ++ rest) ≡ old ++ out
seam len front out rest old same is =
    ap (λ k. take k ((front ++ out) ++ rest)) (is ∙ sym (length-append front out ∙ ap (λ l. length l + length out) same))
    ∙ take-append_seam (front ++ out) rest ∙ ap (λ l. l ++ out) same

-- a vector that grew begins as it did
pub begins : (old grown more : List ℕ) (n start : ℕ) → grown ≡ take n old ++ more → start ≡ length old → start ≤ n → take start grown ≡ old
begins old grown more n start is at within = grind (arith, take_all, take-append_seam)

-- bytes that hex decoded behind others, or none
pub decoded : (digits old out new : List ℕ) (n : ℕ) (said : Result Unit FromHexError) → length digits ≡ 2 * n
    → MatchResult (decode_sized digits n) (λ bytes. (said ≡ Ok tt) × (out ≡ bytes)) (λ e. said ≡ Err e) → new ≡ old ++ out
    → MatchBool (is_ok said) ((more : List ℕ) × (new ≡ old ++ more) × AreDigits digits more) ((more : List ℕ) → AreDigits digits more → ⊥)
decoded digits old out new n said twice answer grown = grind (arith, decode_sized-twice, is_ok, spelled, decodes)

-- a line's digits with more, but for a last one that waits
pub with_pairs : (side : Side) (digits pairs last before old new : List ℕ) (half : Option ℕ) → pairs ++ last ≡ digits → length last ≤ 1 → half ≡ slice_get last 0
    → (more : List ℕ) × (new ≡ old ++ more) × AreDigits pairs more → AreDigits before old
    → (x : List ℕ) × (letter side ∷ space ∷ (before ++ digits) ≡ letter side ∷ space ∷ x) × Spell x half new
with_pairs side digits pairs [] before old new half parts short is (more, grown, d) b =
    let whole : AreDigits (before ++ pairs) new = subst (AreDigits (before ++ pairs)) (sym grown) (join before pairs old more b d) in
    let same : before ++ pairs ≡ before ++ digits = ap (λ l. before ++ l) (sym (append-nil pairs) ∙ parts) in
    (before ++ digits, refl, subst (λ h. Spell (before ++ digits) h new) (sym is) (subst (λ l. AreDigits l new) same whole))
with_pairs side digits pairs (c ∷ []) before old new half parts short is (more, grown, d) b =
    let whole : AreDigits (before ++ pairs) new = subst (AreDigits (before ++ pairs)) (sym grown) (join before pairs old more b d) in
    let same : before ++ digits ≡ (before ++ pairs) ++ c ∷ [] = ap (λ l. before ++ l) (sym parts) ∙ sym (append_assoc before pairs (c ∷ [])) in
    (before ++ digits, refl, subst (λ h. Spell (before ++ digits) h new) (sym is) (before ++ pairs, same, whole))
with_pairs side digits pairs (c ∷ e ∷ last) before old new half parts short is d b = absurd (omega (arith, short))

-- no line has what spells no bytes behind whole bytes
pub no_line : (side : Side) (digits pairs last before old : List ℕ) → pairs ++ last ≡ digits → length pairs % 2 ≡ 0 → ((more : List ℕ) → AreDigits pairs more → ⊥)
    → AreDigits before old → (more : List ℕ) (said : List Chunk) → IsCaptureLine (letter side ∷ space ∷ ((before ++ digits) ++ more)) said → ⊥
no_line side digits pairs last before old parts pairwise none_of b more said f = grind (arith, forms, silent_sends, same_parts, append_assoc, spelled, behind, in_front)

-- a pair whose second digit came with the next part
pub with_second : (side : Side) (before rest old more middle new : List ℕ) (first second : ℕ) (half : Option ℕ) (form : Form) → half ≡ Some first
    → middle ≡ old ++ more → AreDigits (first ∷ second ∷ []) more → Spell before half old
    → ((digits : List ℕ) → AreDigits digits middle → IsOf form new (letter side ∷ space ∷ (digits ++ rest)))
    → IsOf form new (letter side ∷ space ∷ (before ++ second ∷ rest))
with_second side before rest old more middle new first second half form is grown d s next =
    let h = subst (λ h. Spell before h old) is s in
    let whole : AreDigits (h.0 ++ first ∷ second ∷ []) middle = subst (AreDigits (h.0 ++ first ∷ second ∷ [])) (sym grown) (join h.0 (first ∷ second ∷ []) old more h.2 d) in
    let same : (h.0 ++ first ∷ second ∷ []) ++ rest ≡ before ++ second ∷ rest =
    append_assoc h.0 (first ∷ second ∷ []) rest ∙ sym (append_assoc h.0 (first ∷ []) (second ∷ rest)) ∙ ap (λ l. l ++ second ∷ rest) (sym h.1) in
    subst (λ l. IsOf form new (letter side ∷ space ∷ l)) same (next (h.0 ++ first ∷ second ∷ []) whole)

-- one whose second is no digit
pub no_second : (side : Side) (before rest old : List ℕ) (first second : ℕ) (half : Option ℕ) → half ≡ Some first
    → ((more : List ℕ) → AreDigits (first ∷ second ∷ []) more → ⊥) → Spell before half old
    → (more : List ℕ) (said : List Chunk) → IsCaptureLine (letter side ∷ space ∷ ((before ++ second ∷ rest) ++ more)) said → ⊥
no_second side before rest old first second half is none_of s more said f =
    let h = subst (λ h. Spell before h old) is s in
    let same : before ++ second ∷ rest ≡ h.0 ++ first ∷ second ∷ rest = ap (λ l. l ++ second ∷ rest) h.1 ∙ append_assoc h.0 (first ∷ []) (second ∷ rest) in
    no_line side (first ∷ second ∷ rest) (first ∷ second ∷ []) rest h.0 old refl refl none_of h.2 more said
    (subst (λ l. IsCaptureLine (letter side ∷ space ∷ (l ++ more)) said) same f)

-- what a line of a form is
pub filled : (form : Form) (bytes line : List ℕ) → IsOf form bytes line → (form ≡ Empty → ⊥) → line ≡ [] → ⊥
filled Bad bytes line h other nothing = h [] [] (subst (λ l. IsCaptureLine l []) (sym (append-nil line ∙ nothing)) blank)
filled form bytes line h other nothing = grind arith

pub silent : (form : Form) (bytes line : List ℕ) → (form ≡ Empty) ⊎ (form ≡ Comment) → IsOf form bytes line → IsCaptureLine line []
silent form bytes line e h = grind (arith, blank, comment)

pub sent : (side : Side) (bytes line : List ℕ) → IsOf (Digits side None) bytes line → IsCaptureLine line (record { side = side; bytes = bytes } ∷ [])
sent side bytes line h = subst (λ l. IsCaptureLine l (record { side = side; bytes = bytes } ∷ [])) (sym h.1) (chunk side h.0 bytes h.2)

-- a letter alone is no line
pub letter_alone : (side : Side) (bytes line : List ℕ) → IsOf (Letter side) bytes line → (said : List Chunk) → IsCaptureLine line said → ⊥
letter_alone side bytes line h said f = grind (arith, forms, silent_sends)

-- digits of odd number are no line
pub odd_digits : (side : Side) (last : ℕ) (bytes line : List ℕ) → IsOf (Digits side (Some last)) bytes line → (said : List Chunk) → IsCaptureLine line said → ⊥
odd_digits side last bytes line h said f = grind (arith, forms, silent_sends, same_parts, even, spelled, length-append)

pub bad : (bytes line : List ℕ) → IsOf Bad bytes line → (said : List Chunk) → IsCaptureLine line said → ⊥
bad bytes line h said f = h [] said (subst (λ l. IsCaptureLine l said) (sym (append-nil line)) f)

-- a form, if there is one
pub on_form : {E : Type 0} (r : Result Form E) (P Q : Form → Type 0) → IfOk r P → ((form : Form) → P form → Q form) → IfOk r Q
on_form r P Q p f = grind arith
