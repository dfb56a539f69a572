-- The tests of a refutation's states.
use Rattle.nbd_order.proofs.Common.{◌≡◌, ℕ, ◌+◌, ◌<◌, ◌≤◌, inl, inr, List, length, refl, sym, ◌∙◌, ap, subst, Option, Some, get_or, arith, slice_get, nat_lt, true, false, cases_eq, ltb-true, get_or_from_slice_get, slice_get_read, slice_get_within, Profile, Effect, effect, effect_byte, option_map, effects, Asked, Report, asked_at, has, State, AreSteps, Fits, Leads}

-- the effect of a request that was found
pub same_effect : (r : Report) (k : ℕ) (a : Asked) (e : Effect) → asked_at k r.asked ≡ Some a → effects r k ≡ Some e → effect a ≡ e
same_effect r k a e at is = (let q : Some (effect a) ≡ Some e = sym (ap (option_map effect) at) ∙ is in cc)

pub byte_is : (r : Report) (k x : ℕ) (a : Asked) (e : Effect) (b : Option ℕ) → asked_at k r.asked ≡ Some a → effects r k ≡ Some e → b ≡ effect_byte (effect a) x → b ≡ effect_byte e x
byte_is r k x a e b at is left = left ∙ ap (λ f. effect_byte f x) (same_effect r k a e at is)

-- a list of numbers that is another
pub none_served : (changes served cs ss : List ℕ) → cs ≡ changes → ss ≡ served → ((c : ℕ) → has cs c ≡ true → has ss c ≡ false)
    → (c : ℕ) → has changes c ≡ true → has served c ≡ false
none_served changes served cs ss p q h c kept = ap (λ ns. has ns c) (sym q) ∙ h c (ap (λ ns. has ns c) p ∙ kept)

pub fits_of : (profile : Profile) (r : Report) (x : ℕ) (reads changes ss served : List ℕ) (a b : Option ℕ) → ss ≡ served → a ≡ b → Fits profile r x reads changes ss a → Fits profile r x reads changes served b
fits_of profile r x reads changes ss served a b p q h = subst (λ o. Fits profile r x reads changes served o) q (subst (λ ns. Fits profile r x reads changes ns a) p h)

pub leads_of : (profile : Profile) (r : Report) (x : ℕ) (reads changes served : List ℕ) (c : ℕ) (ns next : List ℕ) → ns ≡ next
    → Leads profile r x reads changes served c ns → Leads profile r x reads changes served c next
leads_of profile r x reads changes served c ns next q h = subst (λ ms. Leads profile r x reads changes served c ms) q h

pub steps_of : (profile : Profile) (r : Report) (x : ℕ) (reads changes : List ℕ) (states : List State) (ss served : List ℕ) → ss ≡ served
    → AreSteps profile r x reads changes states ss → AreSteps profile r x reads changes states served
steps_of profile r x reads changes states ss served p h = subst (λ ns. AreSteps profile r x reads changes states ns) p h

-- what is found by a place in a list
pub found_in : {X : Type 0} (xs items : List X) (i : ℕ) (x : X) → items ≡ xs → i < length items → x ≡ get_or items i x → slice_get xs i ≡ Some x
found_in xs items i x same l is = ap (λ ys. slice_get ys i) (sym same) ∙ slice_get_read items (length items) i x refl l is

pub found_at : {X : Type 0} (xs items : List X) (i : ℕ) (x : X) → items ≡ xs → true ≡ nat_lt i (length items) → x ≡ get_or items i x → slice_get xs i ≡ Some x
found_at xs items i x same l is = found_in xs items i x same (ltb-true i (length items) (sym l)) is

module _ {X : Type 0} (P : X → Type 0) (xs items : List X) (i : ℕ) (same : items ≡ xs) where
  -- each of the first i states has the property
  abbrev pub EachBelow : ℕ → Type 0
  EachBelow n = (j : ℕ) (y : X) → j < n → slice_get xs j ≡ Some y → P y

  pub each_state_more : (x : X) → x ≡ get_or items i x → EachBelow i → P x → EachBelow (i + 1)
  each_state_more x is each here j y l at = elim (cases_eq j i) [
    | inl e ↦ subst P (is ∙ ap (λ zs. get_or zs i x) same ∙ get_or_from_slice_get xs i y x (ap (λ n. slice_get xs n) (sym e) ∙ at)) here
    | inr ne ↦ each j y (omega arith) at
  ]

  pub each_state : length items ≤ i → EachBelow i → (j : ℕ) (y : X) → slice_get xs j ≡ Some y → P y
  each_state l each j y at =
      each j y (let w : j < length xs = slice_get_within xs j y at in let e : length items ≡ length xs = ap length same in omega arith) at
