-- Pieces inside a range that share no offset cover it exactly where their sizes add up to its length.
use Rattle.nbd_laws.proofs.Common.{and_from, and_parts, or_cases, or_parts, ◌≡◌, ℕ, zero, suc, ◌<◌, ◌≤◌, ◌+◌, ◌-◌, List, [], ◌∷◌, min, max, refl, sym, ◌∙◌, ap, subst, Some, Bool, true, false, if◌then◌else◌, nat_le, nat_lt, is_some, arith, IsTrue, lt-ltb, eqb-false, le-ltb, ltb-false, leb-false, leb-true, ltb-true, le-leb, lt-leb, Piece, piece_offset, piece_size, piece_byte, byte_at, holds, is_in, SharesNone, total, is_apart, is_apart_from}
use Rattle.nbd_laws.proofs.requests.LaidLemmas.{AreApart, AreInside}
use Rattle.std.proofs.lemmas.Bool.{eqb-true}

abbrev pub one_if : Bool → ℕ
one_if true = 1
one_if false = 0

-- how many of the n offsets from a meet a test
abbrev pub counted : (ℕ → Bool) → ℕ → ℕ → ℕ
counted f a zero = 0
counted f a (suc n) = one_if (f a) + counted f (suc a) n

counted-le : (f : ℕ → Bool) (a n : ℕ) → counted f a n ≤ n
counted-le f a zero = omega arith
counted-le f a (suc n) = grind (arith, counted-le f (suc a) n)

counted-all : (f : ℕ → Bool) (a n : ℕ) → ((x : ℕ) → a ≤ x → x < a + n → f x ≡ true) → counted f a n ≡ n
counted-all f a zero h = refl
counted-all f a (suc n) h = grind (arith, counted-all f (suc a) n (λ x l u. h x (omega arith) (omega arith)))

all-counted : (f : ℕ → Bool) (a n : ℕ) → counted f a n ≡ n → (x : ℕ) → a ≤ x → x < a + n → f x ≡ true
all-counted f a zero e x l u = absurd (omega arith)
all-counted f a (suc n) e x l u = go (f a) refl (λ h l. all-counted f (suc a) n h x l (omega arith))
  where
    go : (b : Bool) → f a ≡ b → (counted f (suc a) n ≡ n → suc a ≤ x → f x ≡ true) → f x ≡ true
    go b is ih = grind (arith, eqb-true, eqb-false, counted-le)

counted-sum : (f g h : ℕ → Bool) → ((x : ℕ) → one_if (f x) ≡ one_if (g x) + one_if (h x)) → (a n : ℕ) → counted f a n ≡ counted g a n + counted h a n
counted-sum f g h e a zero = refl
counted-sum f g h e a (suc n) = let here : one_if (f a) ≡ one_if (g a) + one_if (h a) = e a in let rest : counted f (suc a) n ≡ counted g (suc a) n + counted h (suc a) n = counted-sum f g h e (suc a) n in omega arith

counted-in : (f s a n : ℕ) → counted (is_in f s) a n ≡ min (a + n) (f + s) - max a f
counted-in f s a zero = omega arith
counted-in f s a (suc n) = grind (arith, min, max, nat_le, nat_lt, leb-true, ltb-true, ltb-false, leb-false, counted-in f s (suc a) n)

inside-counted : (offset len : ℕ) (p : Piece) → offset ≤ piece_offset p → piece_offset p + piece_size p ≤ offset + len → counted (holds p) offset len ≡ piece_size p
inside-counted offset len p l u = grind (arith, min, max, counted-in (piece_offset p) (piece_size p) offset len)

abbrev pub has_byte : List Piece → ℕ → Bool
has_byte ps x = is_some (byte_at ps x)

-- an offset lies in the first piece or in a later one, and not in both
one-piece : (p : Piece) (ps : List Piece) → SharesNone p ps → (x : ℕ) → one_if (has_byte (p ∷ ps) x) ≡ one_if (holds p x) + one_if (has_byte ps x)
one-piece p ps none x = grind arith

total-counted : (offset len : ℕ) (ps : List Piece) → AreInside offset len ps → AreApart ps → counted (has_byte ps) offset len ≡ total ps
total-counted offset len [] i a = none offset len
  where
    none : (a n : ℕ) → counted (has_byte []) a n ≡ 0
    none a zero = refl
    none a (suc n) = let h : counted (has_byte []) (suc a) n ≡ 0 = none (suc a) n in omega arith
total-counted offset len (p ∷ ps) i a =
    let sum : counted (has_byte (p ∷ ps)) offset len ≡ counted (holds p) offset len + counted (has_byte ps) offset len = counted-sum (has_byte (p ∷ ps)) (holds p) (has_byte ps) (one-piece p ps a.0) offset len in
    let here : counted (holds p) offset len ≡ piece_size p = inside-counted offset len p i.0.0 i.0.1 in
    let rest : counted (has_byte ps) offset len ≡ total ps = total-counted offset len ps i.1 a.1 in
    omega arith

-- the sizes add up to no more than the range's length
pub total_within : (offset len : ℕ) (ps : List Piece) → AreInside offset len ps → AreApart ps → total ps ≤ len
total_within offset len ps i a = subst (λ n. n ≤ len) (total-counted offset len ps i a) (counted-le (has_byte ps) offset len)

-- what is covered, by the sizes
pub full_total_covers : (offset len : ℕ) (ps : List Piece) → AreInside offset len ps → AreApart ps → total ps ≡ len → (x : ℕ) → offset ≤ x → x < offset + len → IsTrue (has_byte ps x)
full_total_covers offset len ps i a e = all-counted (has_byte ps) offset len (total-counted offset len ps i a ∙ e)

pub covered_total : (offset len : ℕ) (ps : List Piece) → AreInside offset len ps → AreApart ps → ((x : ℕ) → offset ≤ x → x < offset + len → IsTrue (has_byte ps x)) → total ps ≡ len
covered_total offset len ps i a c = sym (total-counted offset len ps i a) ∙ counted-all (has_byte ps) offset len c

-- ranges side by side share no offset
apart-holds : (p q : Piece) → is_apart p q ≡ true → (x : ℕ) → holds p x ≡ true → holds q x ≡ false
apart-holds p q e x h = grind (arith, or_cases, leb-true, lt-leb, nat_le, le-ltb, and_parts, nat_lt, ltb-true)

pub apart_from-shares : (p : Piece) (qs : List Piece) → is_apart_from p qs ≡ true → SharesNone p qs
apart_from-shares p [] e x h = refl
apart_from-shares p (q ∷ qs) e x h =
    let b : (is_apart p q ≡ true) × (is_apart_from p qs ≡ true) = and_parts _ _ e in
    ap (λ c. if c then Some (piece_byte q x) else byte_at qs x) (apart-holds p q b.0 x h) ∙ apart_from-shares p qs b.1 x h

pub no_overlap : (p q : Piece) → 0 < piece_size p → 0 < piece_size q → is_apart p q ≡ false → (x : ℕ) × (holds p x ≡ true) × (holds q x ≡ true)
no_overlap p q lp lq h =
    let a : (nat_le (piece_offset p + piece_size p) (piece_offset q) ≡ false) × (nat_le (piece_offset q + piece_size q) (piece_offset p) ≡ false) = or_parts _ _ h in
    let l : piece_offset q < piece_offset p + piece_size p = leb-false (piece_offset p + piece_size p) (piece_offset q) a.0 in
    let r : piece_offset p < piece_offset q + piece_size q = leb-false (piece_offset q + piece_size q) (piece_offset p) a.1 in
    let x : ℕ = max (piece_offset p) (piece_offset q) in
    (x, is_held p x (omega arith) (omega (arith, l, r, lp, lq)), is_held q x (omega arith) (omega (arith, l, r, lp, lq)))
  where
    is_held : (p : Piece) (x : ℕ) → piece_offset p ≤ x → x < piece_offset p + piece_size p → holds p x ≡ true
    is_held p x l u = and_from _ _ (le-leb (piece_offset p) x l) (lt-ltb x (piece_offset p + piece_size p) u)
