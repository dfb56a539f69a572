-- The two forms of an order line.
use Rattle.nbd_capture.proofs.{Common.{◌≡◌, ℕ, List, [], ◌∷◌, ◌++◌, ◌⊎◌, inl, inr, refl, sym, ◌∙◌, subst, arith, Some, AllDigits, Entry, Part, whole, space, IsNumber, IsOrderLine, IsPart, atomically, of_part}, PartingLemmas.{Lacks, digits_lack, first_parts, none_parted}}

-- no space is among these bytes
abbrev pub IsWord : List ℕ → Type 0
IsWord bytes = Lacks space bytes

pub digits_word : (ds : List ℕ) → AllDigits 10 ds → IsWord ds
digits_word ds all = digits_lack space ds (omega arith) all

pub first_words : (a b x y : List ℕ) → IsWord a → IsWord b → a ++ space ∷ x ≡ b ++ space ∷ y → (a ≡ b) × (x ≡ y)
first_words a b x y = first_parts space a b x y

pub one_word : (a b x : List ℕ) → IsWord b → b ≡ a ++ space ∷ x → ⊥
one_word a b x = none_parted space a b x

-- an order line, taken apart
pub record AtOnce (line : List ℕ) (said : List Entry) : Type 0 where
  pub k : ℕ
  pub number : IsNumber line k
  pub all : said ≡ whole k ∷ []

pub record OfPart (line : List ℕ) (said : List Entry) : Type 0 where
  pub digits : List ℕ
  pub text : List ℕ
  pub k : ℕ
  pub p : Part
  pub parts : line ≡ digits ++ space ∷ text
  pub number : IsNumber digits k
  pub is_part : IsPart text p
  pub all : said ≡ record { request = k; part = Some p } ∷ []

apart : (line : List ℕ) (said : List Entry) → IsOrderLine line said → AtOnce line said ⊎ OfPart line said
apart line said (atomically digits k n) = inl (record { k = k; number = n; all = refl })
apart line said (of_part digits text k p n h) = inr (record { digits = digits; text = text; k = k; p = p; parts = refl; number = n; is_part = h; all = refl })

-- a line without a space is a number or none
pub no_number : (line : List ℕ) → IsWord line → ((k : ℕ) → IsNumber line k → ⊥) → (said : List Entry) → IsOrderLine line said → ⊥
no_number line word none said f = grind (arith, apart, one_word)

-- a line with a space is a number and a part, or none
pub no_parted : (line digits text : List ℕ) → IsWord digits → line ≡ digits ++ space ∷ text → ((k : ℕ) (p : Part) → IsNumber digits k → IsPart text p → ⊥) → (said : List Entry) → IsOrderLine line said → ⊥
no_parted line digits text word e none said f = elim (apart line said f) [
  | inl a ↦ one_word digits line text (digits_word line a.number.0.1) e
  | inr p ↦ (let w = first_words p.digits digits p.text text (digits_word p.digits p.number.0.1) word (sym p.parts ∙ e) in
      none p.k p.p (subst (λ l. IsNumber l p.k) w.0 p.number) (subst (λ l. IsPart l p.p) w.1 p.is_part))
]

-- bytes without a space are no part
pub no_part : (text : List ℕ) → IsWord text → (p : Part) → IsPart text p → ⊥
no_part text word p h = one_word h.0 text h.1 word h.2

-- bytes with one are two numbers, or none
pub no_numbers : (text first second : List ℕ) → IsWord first → text ≡ first ++ space ∷ second → ((m n : ℕ) → IsNumber first m → IsNumber second n → ⊥) → (p : Part) → IsPart text p → ⊥
no_numbers text first second word e none p h = grind (arith, first_words, digits_word)

-- an order line stands for one entry
pub one_entry : (line : List ℕ) (a b : List Entry) → IsOrderLine line a → IsOrderLine line b → a ≡ b
one_entry line a b fa fb = grind (arith, apart, one_word, digits_word, first_words)
