-- The numbers of order lines, digit by digit.
use Rattle.nbd_capture.proofs.Common.{◌≡◌, ℕ, ◌+◌, ◌-◌, ◌*◌, ◌^◌, ◌<◌, ◌≤◌, List, [], ◌∷◌, length, get_or, take, arith, IsNotAsciiDigit, AllDigits, digits_value, digits_more, digits_value_more, digit_at, digits_value-take-le, digit_value_digit, IsNumber}

-- the digits up to one, by the number of those before it
pub with_digit : (digits : List ℕ) (i number : ℕ) → i < length digits → number ≡ digits_value 10 (take i digits) → (48 ≤ get_or digits i 0) × (get_or digits i 0 ≤ 57)
    → number * 10 + (get_or digits i 0 - 48) ≡ digits_value 10 (take (i + 1) digits)
with_digit digits i number inside is d = grind (arith, digit_value_digit, digits_value_more)

pub all_with : (digits : List ℕ) (i : ℕ) → i < length digits → AllDigits 10 (take i digits) → (48 ≤ get_or digits i 0) × (get_or digits i 0 ≤ 57) → AllDigits 10 (take (i + 1) digits)
all_with digits i inside all d = grind (arith, digit_value_digit, digits_more)

-- some of the digits are no number of 64 bits
pub too_large : (digits : List ℕ) (i value : ℕ) → value ≤ digits_value 10 (take i digits) → (value < 2 ^ 64 → ⊥) → (n : ℕ) → IsNumber digits n → ⊥
too_large digits i value least large n f = grind (arith, digits_value-take-le)

-- a byte that is no digit
pub no_digit : (digits : List ℕ) (i : ℕ) → i < length digits → IsNotAsciiDigit (get_or digits i 0) → (n : ℕ) → IsNumber digits n → ⊥
no_digit digits i inside other n f = grind (arith, digit_at)

-- digits that begin plainly are some
pub some_digits : (digits : List ℕ) → 48 ≤ get_or digits 0 0 → 0 < length digits
some_digits [] d = absurd (omega arith)
some_digits (c ∷ digits) d = omega arith
