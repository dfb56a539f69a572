-- Each line has a form of its grammar, or none.
use Rattle.nbd_capture.proofs.Common.{◌≡◌, ◌≢◌, ℕ, ◌^◌, ◌<◌, ◌≤◌, List, [], ◌∷◌, length, slice_index, ◌⊎◌, inl, inr, refl, sym, subst, arith, Result, Ok, Err, Some, digit_value, AllDigits, IsNumeral, digits_value, cases_eq, cases_lt, decode_of, Side, Client, Server, Chunk, IsCaptureLine, hash, letter, space, chunk, blank, comment, Part, whole, BeginsPlainly, IsNumber, IsOrderLine, IsPart, atomically, of_part}
use Rattle.nbd_capture.proofs.{TotalTextLemmas.Decided, DigitLemmas.spelled, FormLemmas.{forms, undecodable}, PartingLemmas.parted, OrderLineLemmas.{no_number, no_numbers, no_part, no_parted}}

abbrev pub Either : Type 0 → Type 0
Either P = P ⊎ (P → ⊥)

-- ---- capture lines

result_cases : {A E : Type 0} (r : Result A E) → ((x : A) × (r ≡ Ok x)) ⊎ ((e : E) × (r ≡ Err e))
result_cases (Ok x) = inl (x, refl)
result_cases (Err e) = inr (e, refl)

abbrev Addressed : Side → List ℕ → Type 0
Addressed side bytes = (digits : List ℕ) × (bytes ≡ letter side ∷ space ∷ digits)

addressed : (side : Side) (bytes : List ℕ) → Either (Addressed side bytes)
addressed side [] = inr (λ a. cc a.1)
addressed side (b ∷ []) = inr (λ a. cc a.1)
addressed side (b ∷ c ∷ digits) =
    elim (cases_eq b (letter side)) [
      | inl same ↦
          elim (cases_eq c space) [
            | inl between ↦ inl (digits, cc)
            | inr other ↦ inr (λ a. other (cc a.1))
          ]
      | inr other ↦ inr (λ a. other (cc a.1))
    ]

sent : (side : Side) (bytes : List ℕ) → Addressed side bytes → Decided IsCaptureLine bytes
sent side bytes a =
    elim (result_cases (decode_of a.0)) [
      | inl good ↦ inl (record { side = side; bytes = good.0 } ∷ [], subst (λ l. IsCaptureLine l (record { side = side; bytes = good.0 } ∷ [])) (sym a.1) (chunk side a.0 good.0 (spelled a.0 good.0 good.1)))
      | inr bad ↦ inr (undecodable bytes side a.0 bad.0 a.1 bad.1)
    ]

unsent : (b : ℕ) (bs : List ℕ) → b ≢ hash → (Addressed Client (b ∷ bs) → ⊥) → (Addressed Server (b ∷ bs) → ⊥) → (said : List Chunk) → IsCaptureLine (b ∷ bs) said → ⊥
unsent b bs other client server said f = grind (arith, forms)

pub decide_capture : (bytes : List ℕ) → Decided IsCaptureLine bytes
decide_capture [] = inl ([], blank)
decide_capture (b ∷ bs) =
    elim (cases_eq b hash) [
      | inl same ↦ inl ([], subst (λ x. IsCaptureLine (x ∷ bs) []) (sym same) (comment bs))
      | inr other ↦
          elim (addressed Client (b ∷ bs)) [
            | inl client ↦ sent Client (b ∷ bs) client
            | inr no_client ↦
                elim (addressed Server (b ∷ bs)) [
                  | inl server ↦ sent Server (b ∷ bs) server
                  | inr no_server ↦ inr (unsent b bs other no_client no_server)
                ]
          ]
    ]

-- ---- order lines

pub both : {P Q : Type 0} → Either P → Either Q → Either (P × Q)
both h q = grind arith

pub less : (m n : ℕ) → Either (m < n)
less m n = grind (arith, cases_lt)

all_digits : (ds : List ℕ) → Either (AllDigits 10 ds)
all_digits [] = inl tt
all_digits (d ∷ ds) = both (less (digit_value d) 10) (all_digits ds)

single : (first len : ℕ) → Either (first ≡ 48 → len ≡ 1)
single first len = grind (arith, cases_eq)

pub at_most : (m n : ℕ) → Either (m ≤ n)
at_most m n = grind (arith, cases_lt)

decide_number : (digits : List ℕ) → ((n : ℕ) × IsNumber digits n) ⊎ ((n : ℕ) → IsNumber digits n → ⊥)
decide_number digits =
    let numeral : Either (IsNumeral 10 digits) = both (less 0 (length digits)) (all_digits digits) in
    let first = slice_index digits 0 in
    let plain : Either (BeginsPlainly digits) = both (both (at_most 48 first) (at_most first 57)) (single first (length digits)) in
    elim (both (both numeral plain) (less (digits_value 10 digits) (2 ^ 64))) [
      | inl all ↦ inl (digits_value 10 digits, (all.0.0, all.0.1, all.1, refl))
      | inr none ↦ inr (λ n f. none ((f.0, f.1), f.2))
    ]

decide_part : (text : List ℕ) → ((p : Part) × IsPart text p) ⊎ ((p : Part) → IsPart text p → ⊥)
decide_part text = elim (parted space text) [
  | inl word ↦ inr (no_part text word)
  | inr s ↦ elim (decide_number s.0) [
    | inl m ↦ elim (decide_number s.1) [
      | inl n ↦ inl (record { offset = m.0; length = n.0 }, (s.0, s.1, s.3, m.1, n.1))
      | inr none ↦ inr (no_numbers text s.0 s.1 s.2 s.3 (λ i j a b. none j b))
    ]
    | inr none ↦ inr (no_numbers text s.0 s.1 s.2 s.3 (λ i j a b. none i a))
  ]
]

pub decide_order : (bytes : List ℕ) → Decided IsOrderLine bytes
decide_order bytes = elim (parted space bytes) [
  | inl word ↦ elim (decide_number bytes) [
    | inl n ↦ inl (whole n.0 ∷ [], atomically bytes n.0 n.1)
    | inr none ↦ inr (no_number bytes word none)
  ]
  | inr s ↦ elim (decide_number s.0) [
    | inl n ↦ elim (decide_part s.1) [
      | inl p ↦ inl (record { request = n.0; part = Some p.0 } ∷ [], subst (λ l. IsOrderLine l (record { request = n.0; part = Some p.0 } ∷ [])) (sym s.3) (of_part s.0 s.1 n.0 p.0 n.1 p.1))
      | inr none ↦ inr (no_parted bytes s.0 s.1 s.2 s.3 (λ k p a b. none p b))
    ]
    | inr none ↦ inr (no_parted bytes s.0 s.1 s.2 s.3 (λ k p a b. none k a))
  ]
]
