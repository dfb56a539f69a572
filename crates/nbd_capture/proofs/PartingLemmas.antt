-- Bytes that one byte parts: lines that a line feed ends, and words that a space ends.
use Rattle.nbd_capture.proofs.Common.{◌≢◌, ◌≡◌, ℕ, ◌<◌, List, [], ◌∷◌, ◌++◌, ◌⊎◌, inl, inr, refl, ap, arith, cases_eq, AllDigits, digit_from_value}
use Rattle.std.specs.List.{AllByRecursion}

-- this byte is not among the others
abbrev pub Lacks : ℕ → List ℕ → Type 0
Lacks s bytes = AllByRecursion (λ b. b ≢ s) bytes

-- it ends the first part
pub first_parts : (s : ℕ) (a b x y : List ℕ) → Lacks s a → Lacks s b → a ++ s ∷ x ≡ b ++ s ∷ y → (a ≡ b) × (x ≡ y)
first_parts s [] [] x y ua ub e = (refl, cc)
first_parts s [] (b ∷ bs) x y ua ub e = absurd (ub.0 (cc))
first_parts s (a ∷ prefix) [] x y ua ub e = absurd (ua.0 (cc))
first_parts s (a ∷ prefix) (b ∷ bs) x y ua ub e = grind (arith, first_parts s prefix bs x y ua.1 ub.1)

-- bytes without it have no parts
pub none_parted : (s : ℕ) (a b x : List ℕ) → Lacks s b → b ≡ a ++ s ∷ x → ⊥
none_parted s [] [] x u e = cc
none_parted s [] (b ∷ bs) x u e = u.0 cc
none_parted s (a ∷ prefix) [] x u e = cc
none_parted s (a ∷ prefix) (b ∷ bs) x u e = let tails : bs ≡ prefix ++ s ∷ x = cc in none_parted s prefix bs x u.1 tails

-- bytes lack it, or have a first part
pub parted : (s : ℕ) (bytes : List ℕ) → Lacks s bytes ⊎ ((first rest : List ℕ) × Lacks s first × (bytes ≡ first ++ s ∷ rest))
parted s [] = inl tt
parted s (b ∷ bs) = elim (cases_eq b s) [
  | inl same ↦ inr ([], bs, tt, ap (λ c. c ∷ bs) same)
  | inr other ↦ elim (parted s bs) [
    | inl none ↦ inl (other, none)
    | inr p ↦ inr (b ∷ p.0, p.1, (other, p.2), ap (λ l. b ∷ l) p.3)
  ]
]

-- digits lack each byte below them
pub digits_lack : (s : ℕ) (ds : List ℕ) → s < 48 → AllDigits 10 ds → Lacks s ds
digits_lack s [] low all = tt
digits_lack s (d ∷ ds) low all = let digit = digit_from_value d all.0 in (omega (arith, digit, low), digits_lack s ds low all.1)
