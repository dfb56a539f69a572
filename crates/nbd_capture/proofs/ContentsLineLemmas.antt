-- The lines of a contents text, taken apart: a line tells one thing, or none.
use Rattle.nbd_capture.proofs.Common.{◌≡◌, ℕ, ◌^◌, ◌<◌, ◌≤◌, List, [], ◌∷◌, ◌++◌, ◌⊎◌, inl, inr, length, get_or, refl, sym, ap, ◌∙◌, subst, arith, length-append, codes, Result, Ok, Err, IfOk, Option, Some, None, MatchOption, Bool, IsTrue, true, false, not, nat_eq, eq-eqb, eqb-true, slice_index, IsNumber, hash, space, IsLaid, up_to, word_text, Held, IsContentsLine, IsValue, Piece, Told, held_from, known, nothing, part, told, unknown, word, zeroes, blank-line, comment-line, piece-line, size-line}
use Rattle.nbd_capture.proofs.{FormLemmas.{IsSilent, same_bytes}, OrderLineLemmas.{IsWord, digits_word, first_words, one_word}}
use Rattle.nbd_export.specs.{Extents.{byte_of, size_of}, declared.extents.Extents.Extents}
use Rattle.nbd_capture.specs.declared.contents_line.Word.{Word}
use Rattle.nbd_capture.specs.declared.contents_line.Word.TheVariants as words
use Rattle.std.specs.Cmp.Lexicographic.{pointwise, same_text}
use Rattle.nbd_export.proofs.HeldLemmas.{length-held_from}

pub record Sizes (before : Told) (line : List ℕ) (after : Told) : Type 0 where
  pub digits : List ℕ
  pub n : ℕ
  pub number : IsNumber digits n
  pub fits : n < 2 ^ 63
  pub start : before ≡ nothing
  pub whole : line ≡ codes "size" ++ space ∷ digits
  pub all : after ≡ part n []

pub record Pieces (before : Told) (line : List ℕ) (after : Told) : Type 0 where
  pub n : ℕ
  pub bytes : Held
  pub p : Piece
  pub offset : List ℕ
  pub value : List ℕ
  pub number : IsNumber offset (length bytes)
  pub is_value : IsValue p value
  pub fits : length (bytes ++ told p) ≤ n
  pub start : before ≡ part n bytes
  pub whole : line ≡ word p ++ space ∷ (offset ++ space ∷ value)
  pub all : after ≡ part n (bytes ++ told p)

pub forms : (before : Told) (line : List ℕ) (after : Told) → IsContentsLine before line after → (IsSilent line × (after ≡ before)) ⊎ (Sizes before line after ⊎ Pieces before line after)
forms before line after (blank-line _) = inl (inl refl, refl)
forms before line after (comment-line _ anything) = inl (inr (anything, refl), refl)
forms before line after (size-line digits n number fits) = inr (inl (record { digits = digits; n = n; number = number; fits = fits; start = refl; whole = refl; all = refl }))
forms before line after (piece-line n bytes p offset value number is_value fits) = grind arith

-- the first byte tells the silent lines from the others
first_silent : (line : List ℕ) → IsSilent line → get_or line 0 0 ≤ 35
first_silent line h = grind arith

first_word : (p : Piece) (rest : List ℕ) → 35 < get_or (word p ++ rest) 0 0
first_word p rest = grind arith

pub silent_sizes : (before : Told) (line : List ℕ) (after : Told) → IsSilent line → Sizes before line after → ⊥
silent_sizes before line after s z = let low = first_silent line s in let high : get_or line 0 0 ≡ 115 = ap (λ l. get_or l 0 0) z.whole in omega arith

pub silent_pieces : (before : Told) (line : List ℕ) (after : Told) → IsSilent line → Pieces before line after → ⊥
silent_pieces before line after s z = grind (arith, first_silent, first_word)

-- what a silent line is behind one beginning it is behind each
pub silent_there : (before : Told) (line : List ℕ) → IsSilent line → IsContentsLine before line before
silent_there before line (inl none) = subst (λ l. IsContentsLine before l before) (sym none) (blank-line before)
silent_there before line (inr remark) = subst (λ l. IsContentsLine before l before) (sym remark.1) (comment-line before remark.0)

pub is_silent : (line : List ℕ) → IsContentsLine nothing line nothing → IsSilent line
is_silent line f = grind (arith, forms)

-- the words of the lines have no space
pub is_word : (p : Piece) → IsWord (word p)
is_word p = grind arith

-- a word is that of one kind of piece
abbrev pub IsOne : Piece → Piece → Type 0
IsOne (unknown m) (unknown n) = Unit {0}
IsOne (zeroes m) (zeroes n) = Unit {0}
IsOne (known a) (known b) = Unit {0}
IsOne p q = ⊥

other_word : {P : Type 0} (m n : ℕ) (a b : List ℕ) → m ∷ a ≡ n ∷ b → (m ≡ n → ⊥) → P
other_word m n a b e ne = absurd (ne (cc e))

pub one_kind : (p q : Piece) → word p ≡ word q → IsOne p q
one_kind p q e = grind (arith, other_word)

-- a value is that of one piece of a kind
pub one_value : (p q : Piece) (value : List ℕ) → IsOne p q → IsValue p value → IsValue q value → p ≡ q
one_value p q value k a b = grind (arith, same_bytes)

-- the words of a line are its own
pub one_split : (v w : List ℕ) (o q x y : List ℕ) → IsWord v → IsWord w → IsWord o → IsWord q
    → v ++ space ∷ (o ++ space ∷ x) ≡ w ++ space ∷ (q ++ space ∷ y) → (v ≡ w) × (o ≡ q) × (x ≡ y)
one_split v w o q x y uv uw uo uq e = grind (arith, first_words)

pub number_word : (digits : List ℕ) (n : ℕ) → IsNumber digits n → IsWord digits
number_word digits n h = digits_word digits h.0.1

same_sizes : (before : Told) (line : List ℕ) (a b : Told) → Sizes before line a → Sizes before line b → a ≡ b
same_sizes before line a b y z = let digits : y.digits ≡ z.digits = cc (y.whole, z.whole) in grind (arith, digits)

same_pieces : (before : Told) (line : List ℕ) (a b : Told) → Pieces before line a → Pieces before line b → a ≡ b
same_pieces before line a b y z =
    let w = one_split (word y.p) (word z.p) y.offset z.offset y.value z.value (is_word y.p) (is_word z.p) (number_word y.offset _ y.number) (number_word z.offset _ z.number) (sym y.whole ∙ z.whole) in
    let p : y.p ≡ z.p = one_value y.p z.p z.value (one_kind y.p z.p w.0) (subst (IsValue y.p) w.2 y.is_value) z.is_value in
    grind (arith, p)

-- a line tells one thing behind others
pub one_line : (before : Told) (line : List ℕ) (a b : Told) → IsContentsLine before line a → IsContentsLine before line b → a ≡ b
one_line before line a b fa fb = elim (forms before line a fa) [
  | inl s ↦ grind (arith, forms before line b fb, silent_sizes, silent_pieces)
  | inr (inl z) ↦ grind (arith, forms before line b fb, silent_sizes, same_sizes before line a b z)
  | inr (inr z) ↦ grind (arith, forms before line b fb, silent_pieces, same_pieces before line a b z)
]

-- a line with a piece's word is not silent
pub silent_word : (line : List ℕ) (p : Piece) (rest : List ℕ) → IsSilent line → line ≡ word p ++ rest → ⊥
silent_word line p rest s e = grind (arith, first_silent, first_word)

-- the test of a line's first byte says whether it is silent
pub silent_nil : (line : List ℕ) → length line < 1 → (IsTrue true → IsContentsLine nothing line nothing) × (IsContentsLine nothing line nothing → IsTrue true)
silent_nil [] e = (λ _. blank-line nothing, λ _. refl)
silent_nil (b ∷ bs) e = absurd (omega arith)

pub silent_first : (line : List ℕ) → 1 ≤ length line → (IsTrue (nat_eq (slice_index line 0) hash) → IsContentsLine nothing line nothing) × (IsContentsLine nothing line nothing → IsTrue (nat_eq (slice_index line 0) hash))
silent_first [] e = absurd (omega arith)
silent_first (b ∷ bs) e = (
  λ h. let same : hash ≡ b = sym (eqb-true b hash h) in subst (λ x. IsContentsLine nothing (x ∷ bs) nothing) same (comment-line nothing bs),
  λ f. elim (is_silent (b ∷ bs) f) [
    | inl none ↦ absurd (cc none)
    | inr remark ↦ let same : b ≡ hash = cc remark.1 in eq-eqb b hash same
  ],
)

-- ---- the line of the size

-- where it is one, its digits stand behind the first space
pub size_digits : (line w digits : List ℕ) (n : ℕ) → IsWord w → line ≡ w ++ space ∷ digits → IsContentsLine nothing line (part n [])
    → (w ≡ codes "size") × IsNumber digits n × (n < 2 ^ 63)
size_digits line w digits n u e f = elim (forms nothing line (part n []) f) [
  | inl s ↦ absurd (cc s.1)
  | inr (inl z) ↦ (let both = first_words (codes "size") w z.digits digits (omega arith, (omega arith, (omega arith, (omega arith, tt)))) u (sym z.whole ∙ e) in grind (arith, both))
  | inr (inr z) ↦ absurd (cc z.start)
]

pub no_size : (line : List ℕ) (n : ℕ) → IsWord line → IsContentsLine nothing line (part n []) → ⊥
no_size line n u f = grind (arith, forms, one_word)

-- a line that is neither silent nor that of a size is none at the beginning
pub no_beginning : (line : List ℕ) → (IsContentsLine nothing line nothing → ⊥) → ((n : ℕ) → IsContentsLine nothing line (part n []) → ⊥) → (more : Told) → IsContentsLine nothing line more → ⊥
no_beginning line loud none more f = grind (arith, forms, silent_there)

-- ---- a line that tells of bytes

pub record Kind {X : Type 0} (shape : X → Piece) (w : List ℕ) : Type 0 where
  pub sample : Piece
  pub is_word : w ≡ word sample
  pub has : (x : X) → word (shape x) ≡ w
  pub only : (p : Piece) → word p ≡ w → (x : X) × (p ≡ shape x)

pub taken : {X : Type 0} (shape : X → Piece) (w : List ℕ) → Kind shape w → (old new : Extents) (at : ℕ) (line offset value : List ℕ) (to : Option ℕ)
    → size_of new ≡ size_of old → IsNumber offset at → line ≡ w ++ space ∷ (offset ++ space ∷ value) → IsLaid shape old new at value to
    → MatchOption to ((more : Told) → IsContentsLine (up_to old at) line more → ⊥) (λ end. (end ≤ size_of old) × IsContentsLine (up_to old at) line (up_to new end))
taken shape w kind old new at line offset value None size number whole laid = λ more f.
    let len = length-held_from (byte_of old) 0 at in
    elim (forms (up_to old at) line more f) [
      | inl s ↦ silent_word line kind.sample (space ∷ (offset ++ space ∷ value)) s.0 (whole ∙ ap (λ v. v ++ space ∷ (offset ++ space ∷ value)) kind.is_word)
      | inr (inl z) ↦ absurd (cc z.start)
      | inr (inr z) ↦ (let words : IsWord w = subst IsWord (sym kind.is_word) (is_word kind.sample) in
          let parts = one_split (word z.p) w z.offset offset z.value value (is_word z.p) words (number_word z.offset _ z.number) (number_word offset at number) (sym z.whole ∙ whole) in
          let x = kind.only z.p parts.0 in
          let n : size_of old ≡ z.n = cc z.start in
          let bytes : held_from (byte_of old) 0 at ≡ z.bytes = cc z.start in
          let all = length-append z.bytes (told z.p) in
          let begun : length z.bytes ≡ at = ap length (sym bytes) ∙ len in
          let told_len : length (told z.p) ≡ length (told (shape x.0)) = ap (λ q. length (told q)) x.1 in
          let fits = z.fits in
          laid x.0 (subst (λ q. IsValue q value) x.1 (subst (IsValue z.p) parts.2 z.is_value)) (omega (arith, n, all, begun, told_len, fits)))
    ]
taken shape w kind old new at line offset value (Some end) size number whole laid =
    let x = laid.0 in
    let bytes = held_from (byte_of old) 0 at in
    let len : length bytes ≡ at = length-held_from (byte_of old) 0 at in
    let all = length-append bytes (told (shape x)) in
    let form : IsContentsLine (up_to old at) (word (shape x) ++ space ∷ (offset ++ space ∷ value)) (part (size_of old) (bytes ++ told (shape x))) =
    piece-line (size_of old) bytes (shape x) offset value (subst (IsNumber offset) (sym len) number) laid.1 (let l = laid.2 in let e = laid.3 in omega (arith, all, len, l, e)) in
    let line_is : word (shape x) ++ space ∷ (offset ++ space ∷ value) ≡ line = ap (λ v. v ++ space ∷ (offset ++ space ∷ value)) (kind.has x) ∙ sym whole in
    let after : part (size_of old) (bytes ++ told (shape x)) ≡ up_to new end = ap (λ n. part n (bytes ++ told (shape x))) (sym size) ∙ ap (part (size_of new)) (sym laid.4) in
    (laid.2, subst (λ l. IsContentsLine (up_to old at) l (up_to new end)) line_is (subst (IsContentsLine (up_to old at) (word (shape x) ++ space ∷ (offset ++ space ∷ value))) after form))

zeroes_only : (p : Piece) → word p ≡ codes "zero" → (n : ℕ) × (p ≡ zeroes n)
zeroes_only p e = grind (arith, other_word)

unknown_only : (p : Piece) → word p ≡ codes "unknown" → (n : ℕ) × (p ≡ unknown n)
unknown_only p e = grind (arith, other_word)

known_only : (p : Piece) → word p ≡ codes "data" → (bytes : List ℕ) × (p ≡ known bytes)
known_only p e = grind (arith, other_word)

pub zeroes_kind : Kind zeroes (codes "zero")
zeroes_kind = record { sample = zeroes 0; is_word = refl; has = λ n. refl; only = zeroes_only }

pub unknown_kind : Kind unknown (codes "unknown")
unknown_kind = record { sample = unknown 0; is_word = refl; has = λ n. refl; only = unknown_only }

pub known_kind : Kind known (codes "data")
known_kind = record { sample = known []; is_word = refl; has = λ bytes. refl; only = known_only }

-- a line is no piece's
pub no_piece : (old : Extents) (at : ℕ) (line : List ℕ) → (IsContentsLine nothing line nothing → ⊥)
    → ((p : Piece) (offset value : List ℕ) → IsNumber offset at → line ≡ word p ++ space ∷ (offset ++ space ∷ value) → ⊥)
    → (more : Told) → IsContentsLine (up_to old at) line more → ⊥
no_piece old at line loud none more f = grind (arith, forms, silent_there, length-held_from)

-- a piece's line, by its words
pub piece_words : (line first rest offset value : List ℕ) (at : ℕ) → IsWord first → line ≡ first ++ space ∷ rest → IsWord offset → rest ≡ offset ++ space ∷ value
    → (p : Piece) (o v : List ℕ) → IsNumber o at → line ≡ word p ++ space ∷ (o ++ space ∷ v) → (first ≡ word p) × IsNumber offset at
piece_words line first rest offset value at uf e uo g p o v number whole =
    let parts = one_split first (word p) offset o value v uf (is_word p) uo (number_word o at number) (sym (ap (λ r. first ++ space ∷ r) g) ∙ sym e ∙ whole) in
    (parts.0, subst (λ d. IsNumber d at) (sym parts.1) number)

pub no_second : (line first rest : List ℕ) (at : ℕ) → IsWord first → line ≡ first ++ space ∷ rest → IsWord rest
    → (p : Piece) (o v : List ℕ) → IsNumber o at → line ≡ word p ++ space ∷ (o ++ space ∷ v) → ⊥
no_second line first rest at uf e ur p o v number whole = grind (arith, first_words, is_word, one_word)

-- the words of the program are those of pieces
pub word_of : (p : Piece) → (w : Word) × (word p ≡ word_text w)
word_of (unknown n) = (words.Unknown, refl)
word_of (zeroes n) = (words.Zero, refl)
word_of (known bytes) = (words.Data, refl)

-- what a comparison of two texts says
pub pointwise-refl : (a : List ℕ) → pointwise nat_eq a a ≡ true
pointwise-refl [] = refl
pointwise-refl (a ∷ prefix) = rw (eq-eqb a a refl) (pointwise-refl prefix)

pub same_bytes-ne : (a b : List ℕ) → true ≡ not (pointwise nat_eq a b) → a ≡ b → ⊥
same_bytes-ne a b e same = grind (arith, nat_eq, pointwise-refl)

pub same_bytes-eq : (a b : List ℕ) → false ≡ not (pointwise nat_eq a b) → a ≡ b
same_bytes-eq a b e = grind (arith, same_text, nat_eq)

-- the same where memory may be refused
pub taken_or_refused : {X E : Type 0} (shape : X → Piece) (w : List ℕ) → Kind shape w → (old new : Extents) (at : ℕ) (line offset value : List ℕ) (r : Result (Option ℕ) E)
    → size_of new ≡ size_of old → IsNumber offset at → line ≡ w ++ space ∷ (offset ++ space ∷ value) → IfOk r (IsLaid shape old new at value)
    → IfOk r (λ to. MatchOption to ((more : Told) → IsContentsLine (up_to old at) line more → ⊥) (λ end. (end ≤ size_of old) × IsContentsLine (up_to old at) line (up_to new end)))
taken_or_refused shape w kind old new at line offset value (Ok to) size number whole laid = taken shape w kind old new at line offset value to size number whole laid
taken_or_refused shape w kind old new at line offset value (Err e) size number whole laid = tt

-- a line that is not silent, by the test
pub loud : (b : Bool) (line : List ℕ) → b ≡ false → (IsTrue b → IsContentsLine nothing line nothing) × (IsContentsLine nothing line nothing → IsTrue b) → IsContentsLine nothing line nothing → ⊥
loud b line e h f = grind arith

pub silent : (b : Bool) (line : List ℕ) (before : Told) → b ≡ true → (IsTrue b → IsContentsLine nothing line nothing) × (IsContentsLine nothing line nothing → IsTrue b) → IsContentsLine before line before
silent b line before e h = grind (arith, silent_there, is_silent)
