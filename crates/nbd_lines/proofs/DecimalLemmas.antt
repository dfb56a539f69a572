-- Numbers in decimal digits, next to what `std` says of `parse`.
use Rattle.nbd_lines.proofs.Common.{space, ◌≡◌, ℕ, ◌^◌, ◌<◌, List, Some, Result, sym, subst, arith, MatchOption, false, MatchResult, is_ok, Bor, decimal, result_ok, IsUtf8, AllDigits, IsNumeral, ParsesUnsigned, digits_value, IsAscii-decimal, decimal-digits_value, decimal_digit, decimal_is_IsNumeral, first_decimal, cases_lt, IsUtf8-from_ascii, IsNumeralModel, digit_at, numerals_by_value, tells_digits, without_leading_plus_none, BeginsPlainly, IsSpaceless}
use Rattle.nbd_capture.proofs.PartingLemmas.{digits_lack}

own : IsNumeralModel (AllDigits 10) (digits_value 10)
own = numerals_by_value (AllDigits 10) tells_digits

-- digits without a leading zero are those of their value
pub plain_is_decimal : (ds : List ℕ) → IsNumeral 10 ds → BeginsPlainly ds → digits_value 10 ds < 2 ^ 64 → ds ≡ decimal (digits_value 10 ds)
plain_is_decimal ds numeral plain fits = sym (decimal-digits_value own ds numeral.1 numeral.0 plain.1 fits)

pub plain_as_decimal : (ds : List ℕ) (n : ℕ) → n < 2 ^ 64 → ds ≡ decimal n → BeginsPlainly ds
plain_as_decimal ds n fits e = grind (arith, decimal_is_IsNumeral, digit_at, cases_lt, first_decimal, decimal_digit)

pub utf8_as_decimal : (ds : List ℕ) (n : ℕ) → n < 2 ^ 64 → ds ≡ decimal n → IsUtf8 ds
utf8_as_decimal ds n fits e = subst IsUtf8 (sym e) (IsUtf8-from_ascii (decimal n) (IsAscii-decimal n fits))

pub plain_digits_parse : {E : Type 0} (ds : List ℕ) (r : Result ℕ E) → BeginsPlainly ds → ParsesUnsigned 64 10 ds r
    → MatchOption (result_ok r) ((n : ℕ) → n < 2 ^ 64 → ds ≡ decimal n → ⊥) (λ n. ds ≡ decimal n)
plain_digits_parse ds r plain h = grind (arith, without_leading_plus_none, plain_is_decimal, decimal_is_IsNumeral)

-- what `from_utf8` says of the digits, by its answer
pub not_utf8 : {E : Type 0} (Q : E → Type 0) (ds : List ℕ) (r : Result (Bor (List ℕ)) E) → false ≡ is_ok r
    → MatchResult r (λ s. (s.now ≡ ds) × IsUtf8 ds) (λ e. (IsUtf8 ds → ⊥) × Q e) → IsUtf8 ds → ⊥
not_utf8 Q ds r e h = grind arith

pub utf8_text : {E : Type 0} (Q : E → Type 0) (ds : List ℕ) (r : Result (Bor (List ℕ)) E) (s : Bor (List ℕ)) → Some s ≡ result_ok r
    → MatchResult r (λ s. (s.now ≡ ds) × IsUtf8 ds) Q → s.now ≡ ds
utf8_text Q ds r s e h = grind arith

pub decimal_is_spaceless : (n : ℕ) → n < 2 ^ 64 → IsSpaceless (decimal n)
decimal_is_spaceless n fits = digits_lack space (decimal n) (omega arith) (decimal_is_IsNumeral n fits).0.1
