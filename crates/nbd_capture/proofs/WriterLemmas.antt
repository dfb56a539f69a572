-- How far a writer has come, and what it holds after one more step or a fault.
use Rattle.nbd_capture.proofs.Common.{arith, ◌≡◌, ℕ, List, [], ◌∷◌, ◌++◌, refl, sym, ap, ◌∙◌, append_assoc, subst, ◌/◌, ◌%◌, slice_index, encode_lower, encode_with, lower_digits, Option, Appends, Appends-nil, Appends-trans, AppendsPrefix}

-- all but the rest stands written, where a written prefix has these bytes
pub record Wrote (spelling : List ℕ → List ℕ) (old new : Option (List ℕ)) (all rest : List ℕ) : Type 0 where
  pub prefix : List ℕ
  pub whole : all ≡ prefix ++ rest
  pub grown : Appends old new (spelling prefix)

-- spelling goes byte by byte
pub record Spells (spelling : List ℕ → List ℕ) : Type 0 where
  pub none : spelling [] ≡ []
  pub split : (a b : List ℕ) → spelling (a ++ b) ≡ spelling a ++ spelling b

pub plainly : Spells (λ (bytes : List ℕ). bytes)
plainly = record { none = refl; split = λ a b. refl }

encode_with-append : (t a b : List ℕ) → encode_with t (a ++ b) ≡ encode_with t a ++ encode_with t b
unfolding encode_with
encode_with-append t [] b = refl
encode_with-append t (x ∷ xs) b = ap (λ l. slice_index t (x / 16) ∷ slice_index t (x % 16) ∷ l) (encode_with-append t xs b)

pub in_lower_case : Spells encode_lower
unfolding encode_with
in_lower_case = record { none = refl; split = λ a b. encode_with-append lower_digits a b }

module _ (spelling : List ℕ → List ℕ) (spells : Spells spelling) where
  pub nothing_yet : (old : Option (List ℕ)) (all : List ℕ) → Wrote spelling old old all all
  nothing_yet old all = record { prefix = []; whole = refl; grown = subst (Appends old old) (sym spells.none) (Appends-nil old) }

  pub one_more : (old mid new : Option (List ℕ)) (all rest piece behind : List ℕ) → Wrote spelling old mid all rest
      → rest ≡ piece ++ behind → Appends mid new (spelling piece) → Wrote spelling old new all behind
  one_more old mid new all rest piece behind past e grown = grind (arith, append_assoc, Appends-trans)

  pub broken_off : (old mid new : Option (List ℕ)) (all rest piece behind : List ℕ) → Wrote spelling old mid all rest
      → rest ≡ piece ++ behind → AppendsPrefix mid new (spelling piece) → AppendsPrefix old new (spelling all)
  broken_off old mid new all rest piece behind past e more = grind (arith, append_assoc)

-- after a whole first part, a prefix of the second is a prefix of both
pub then_prefix : (old mid new : Option (List ℕ)) (first second : List ℕ) → Appends old mid first → AppendsPrefix mid new second → AppendsPrefix old new (first ++ second)
then_prefix old mid new first second done more =
    (first ++ more.0, more.1, ap (λ l. first ++ l) more.2 ∙ sym (append_assoc first more.0 more.1), Appends-trans old mid new first more.0 done more.3)

-- a prefix of the first part is a prefix of both
pub prefix_then : (old new : Option (List ℕ)) (first second : List ℕ) → AppendsPrefix old new first → AppendsPrefix old new (first ++ second)
prefix_then old new first second more =
    (more.0, more.1 ++ second, ap (λ l. l ++ second) more.2 ∙ append_assoc more.0 more.1 second, more.3)
