-- Digits and the bytes that they spell, next to what `hex` says of its calls.
use Rattle.nbd_capture.proofs.Common.{◌≡◌, ℕ, zero, suc, ◌+◌, ◌*◌, ◌%◌, ◌<◌, ◌≤◌, ◌==◌, Bool, true, ◌&&◌, nat_lt, ◌⊎◌, inl, inr, List, [], ◌∷◌, length, slice_index, Some, Result, Ok, refl, sym, ap, ◌∙◌, arith, subst, and_parts, cases_lt, nat_tests, if◌then◌else◌, decode_of, decode_pairs, digit_or_error, hex_digit_value, lower_digits, pair_value, upper_digits, value_at, ◌>>=◌, FromHexError, cons_byte, decode_pairs-ok_pair, decode_of-even, decode_of-ok, IsDigit, AreDigits, none, byte}
use Rattle.std.proofs.Common.{Option}

-- what stands at a place of both tables
abbrev right_at : ℕ → Bool
right_at v = if nat_lt v 10 then slice_index lower_digits v == v + 48 else (slice_index lower_digits v == v + 87) && (slice_index upper_digits v == v + 55)

abbrev right_below : ℕ → Bool
right_below zero = true
right_below (suc n) = right_at n && right_below n

right_below-at : (n k : ℕ) → right_below n ≡ true → k < n → right_at k ≡ true
right_below-at zero k h lt = absurd (omega arith)
right_below-at (suc n) k h lt = grind (arith, and_parts, cases_lt, right_below-at n k)

right : (v : ℕ) → v < 16 → right_at v ≡ true
right v fits = right_below-at 16 v refl fits

-- the tables, as numbers
lower_small : (v : ℕ) → v < 10 → slice_index lower_digits v ≡ v + 48
lower_small v fits = let h = right v (omega arith) in grind (arith, nat_tests)

lower_large : (v : ℕ) → 10 ≤ v → v < 16 → slice_index lower_digits v ≡ v + 87
lower_large v low fits = let h = right v fits in grind (arith, nat_tests)

upper_large : (v : ℕ) → 10 ≤ v → v < 16 → slice_index upper_digits v ≡ v + 55
upper_large v low fits = let h = right v fits in grind (arith, nat_tests)

-- which characters hex reads, and as what
hex_cases : (c v : ℕ) → hex_digit_value c ≡ Some v
    → ((c ≡ v + 55) × (10 ≤ v) × (v < 16)) ⊎ ((c ≡ v + 87) × (10 ≤ v) × (v < 16)) ⊎ ((c ≡ v + 48) × (v < 10))
hex_cases c v e = grind (arith, nat_tests)

-- what hex reads as a digit is one
pub digit_of_value : (c v : ℕ) → hex_digit_value c ≡ Some v → IsDigit c v
digit_of_value c v e =
    elim (hex_cases c v e) [
      | inl upper ↦ (upper.2, inr (upper.0 ∙ sym (upper_large v upper.1 upper.2)))
      | inr other ↦ elim other [
        | inl lower ↦ (lower.2, inl (lower.0 ∙ sym (lower_large v lower.1 lower.2)))
        | inr small ↦ (omega arith, inl (small.0 ∙ sym (lower_small v small.1)))
      ]
    ]

-- a digit is read by hex
pub value_of_digit : (c v : ℕ) → IsDigit c v → hex_digit_value c ≡ Some v
value_of_digit c v d = grind arith

-- digits are pairs
pub even : (digits bytes : List ℕ) → AreDigits digits bytes → length digits % 2 ≡ 0
even digits bytes none = refl
even digits bytes (byte a b high low rest more da db r) = let e = even rest more r in omega (arith, e)

-- digits decode to their bytes
pub decodes_pairs : (i : ℕ) (digits bytes : List ℕ) → AreDigits digits bytes → decode_pairs i digits ≡ Ok bytes
unfolding decode_pairs
decodes_pairs i digits bytes none = refl
decodes_pairs i digits bytes (byte a b high low rest more da db r) =
    let first : value_at a i ≡ Ok high = ap (digit_or_error a i) (value_of_digit a high da) in
    let second : value_at b (i + 1) ≡ Ok low = ap (digit_or_error b (i + 1)) (value_of_digit b low db) in
    let pair : pair_value a b i ≡ Ok (high * 16 + low) = rw (first, second) refl in
    decode_pairs-ok_pair i a b (high * 16 + low) rest pair ∙ ap (cons_byte (high * 16 + low)) (decodes_pairs (i + 2) rest more r)

pub decodes : (digits bytes : List ℕ) → AreDigits digits bytes → decode_of digits ≡ Ok bytes
decodes digits bytes d = decode_of-even digits (even digits bytes d) ∙ decodes_pairs 0 digits bytes d

-- what an `Ok` after `>>=` shows
bind_ok : {A B : Type 0} (r : Result A FromHexError) (f : A → Result B FromHexError) (y : B)
    → (r >>= f) ≡ Ok y → (x : A) × (r ≡ Ok x) × (f x ≡ Ok y)
bind_ok r f y h = grind arith

-- the value of a digit that was read
read_value : (c i : ℕ) (o : Option ℕ) (v : ℕ) → digit_or_error c i o ≡ Ok v → o ≡ Some v
read_value c i o v h = grind arith

digit_read : (c i v : ℕ) → value_at c i ≡ Ok v → IsDigit c v
digit_read c i v h = digit_of_value c v (read_value c i (hex_digit_value c) v h)

-- what decodes by pairs is digits
spelled_pairs : (i : ℕ) (digits bytes : List ℕ) → decode_pairs i digits ≡ Ok bytes → AreDigits digits bytes
unfolding decode_pairs
spelled_pairs i [] bytes h = let e : [] ≡ bytes = cc in subst (λ l. AreDigits [] l) e none
spelled_pairs i (a ∷ []) bytes h = cc h
spelled_pairs i (a ∷ b ∷ rest) bytes h =
    let pair = bind_ok (pair_value a b i) _ bytes h in
    let more = bind_ok (decode_pairs (i + 2) rest) _ bytes pair.2 in
    let first = bind_ok (value_at a i) _ pair.0 pair.1 in
    let second = bind_ok (value_at b (i + 1)) _ pair.0 first.2 in
    let value : first.0 * 16 + second.0 ≡ pair.0 = cc second.2 in
    let all : pair.0 ∷ more.0 ≡ bytes = cc more.2 in
    let digits = byte a b first.0 second.0 rest more.0 (digit_read a i first.0 first.1) (digit_read b (i + 1) second.0 second.1) (spelled_pairs (i + 2) rest more.0 more.1) in
    subst (λ l. AreDigits (a ∷ b ∷ rest) l) (ap (λ v. v ∷ more.0) value ∙ all) digits

-- what decodes is digits
pub spelled : (digits bytes : List ℕ) → decode_of digits ≡ Ok bytes → AreDigits digits bytes
spelled digits bytes h = grind (arith, decode_of-ok, spelled_pairs, decode_of-even)

-- the digits stand between `0` and `f`
pub lower_below : (v : ℕ) → v < 16 → (48 ≤ slice_index lower_digits v) × (slice_index lower_digits v ≤ 102)
lower_below v fits = grind (arith, cases_lt, lower_small, lower_large)
