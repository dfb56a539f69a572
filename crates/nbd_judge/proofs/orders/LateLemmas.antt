-- The pass from the end that keeps the least count at which something was due.
use Rattle.nbd_judge.proofs.Common.{◌≡◌, ℕ, suc, ◌+◌, ◌<◌, ◌≤◌, ◌⊎◌, ◌==◌, ◌&&◌, ◌||◌, inl, inr, List, ◌∷◌, refl, sym, ◌∙◌, ap, subst, Option, Some, None, arith, true, false, IsTrue, MatchOption, add-one, drop, drop-cons, eq-eqb, eqb-true, slice_get, get_or_from_slice_get, slice_get_within, or-true, or_cases, and_parts, ltb-true, ltb-false, cases_eq, IsLeast, Entry, in_part, is_served, IsFirst, IsLate, lesser_of, ServesDue, is_above}
use Rattle.nbd_judge.proofs.contents.CompareLemmas.{least_as, least_lesser}

-- an offset that one of the entries from i on serves was due when so many requests had completed
abbrev pub ServedDueFrom : (due : ℕ → ℕ → Option ℕ) → List Entry → ℕ → ℕ → Type 0
ServedDueFrom due order i n = (k : ℕ) × (x : ℕ) × IsTrue (is_served (drop i order) k x) × (due k x ≡ Some n)

-- the first entry from i on that is late
abbrev pub IsFound : (due : ℕ → ℕ → Option ℕ) → List Entry → ℕ → Option ℕ → Type 0
IsFound due order i None = (j : ℕ) → i ≤ j → IsLate due order j → ⊥
IsFound due order i (Some e) = (j : ℕ) × (e ≡ j + 1) × (i ≤ j) × IsLate due order j × ((m : ℕ) → i ≤ m → m < j → IsLate due order m → ⊥)

drop_at : (order : List Entry) (at : ℕ) (e : Entry) → slice_get order at ≡ Some e → drop at order ≡ e ∷ drop (at + 1) order
drop_at order at e q = drop-cons order at e (slice_get_within order at e q) ∙ ap (λ d. d ∷ drop (suc at) order) (get_or_from_slice_get order at e e q) ∙ ap (λ n. e ∷ drop n order) (sym (add-one at))

module _ (due : ℕ → ℕ → Option ℕ) (order : List Entry) (i at : ℕ) (here : i ≡ at + 1) (e : Entry) (entry : slice_get order at ≡ Some e) where
  served_at : (k x : ℕ) → is_served (drop at order) k x ≡ (((e.request == k) && in_part e.part x) || is_served (drop i order) k x)
  served_at k x = ap (λ l. is_served l k x) (drop_at order at e entry) ∙ ap (λ j. ((e.request == k) && in_part e.part x) || is_served (drop j order) k x) (sym here)

  to : (n : ℕ) → ServedDueFrom due order i n ⊎ ServesDue due e n → ServedDueFrom due order at n
  to n (inl (k, x, s, d)) = (k, x, served_at k x ∙ ap (λ b. ((e.request == k) && in_part e.part x) || b) s ∙ or-true _, d)
  to n (inr (x, p, d)) = (e.request, x, served_at e.request x ∙ ap (λ b. (b && in_part e.part x) || is_served (drop i order) e.request x) (eq-eqb e.request e.request refl) ∙ ap (λ b. b || is_served (drop i order) e.request x) p, d)

  from : (n : ℕ) → ServedDueFrom due order at n → ServedDueFrom due order i n ⊎ ServesDue due e n
  from n (k, x, s, d) = elim (or_cases ((e.request == k) && in_part e.part x) (is_served (drop i order) k x) (sym (served_at k x) ∙ s)) [
    | inl q ↦ (let a = and_parts (e.request == k) (in_part e.part x) q in inr (x, a.1, ap (λ j. due j x) (eqb-true e.request k a.0) ∙ d))
    | inr s ↦ inl (k, x, s, d)
  ]

  pub least_step : (least found : Option ℕ) → IsLeast (ServedDueFrom due order i) least → IsLeast (ServesDue due e) found → IsLeast (ServedDueFrom due order at) (lesser_of least found)
  least_step least found a b =
      least_as (λ n. ServedDueFrom due order i n ⊎ ServesDue due e n) (ServedDueFrom due order at) (lesser_of least found) to from
      (least_lesser (ServedDueFrom due order i) (ServesDue due e) least found a b)

  pub is_late : (least : Option ℕ) → IsLeast (ServedDueFrom due order at) least → is_above e.request least ≡ true → IsLate due order at
  is_late None h above = absurd (let q : false ≡ true = above in (cc))
  is_late (Some m) h above = (e, h.0.0, h.0.1, m, entry, h.0.2, h.0.3, ltb-true m e.request above)

  pub not_late : (least : Option ℕ) → IsLeast (ServedDueFrom due order at) least → is_above e.request least ≡ false → IsLate due order at → ⊥
  not_late None h above (d, k, x, n, q, s, due_is, lt) = h n (k, x, s, due_is)
  not_late (Some m) h above (d, k, x, n, q, s, due_is, lt) =
      (let same : e ≡ d = (let w : Some e ≡ Some d = sym entry ∙ q in cc) in
      let eq : e.request ≡ d.request = ap (λ (y : Entry). y.request) same in
      let low : e.request ≤ m = ltb-false m e.request above in
      h.1 n (omega (arith, lt, eq, low)) (k, x, s, due_is))

  pub found_now : IsLate due order at → IsFound due order at (Some (at + 1))
  found_now l = (at, refl, omega arith, l, λ m lo hi. absurd (omega arith))

  pub found_later : (found : Option ℕ) → (IsLate due order at → ⊥) → IsFound due order i found → IsFound due order at found
  found_later None fresh f = λ j lo l. elim (cases_eq at j) [ inl s ↦ fresh (subst (IsLate due order) (sym s) l) | inr ne ↦ f j (omega arith) l ]
  found_later (Some x) fresh f = (f.0, f.1, (let lo : i ≤ f.0 = f.2 in omega arith), f.3, λ m lo hi l. elim (cases_eq at m) [ inl s ↦ fresh (subst (IsLate due order) (sym s) l) | inr ne ↦ f.4 m (omega arith) hi l ])

-- when the pass is through
pub found_first : (due : ℕ → ℕ → Option ℕ) (order : List Entry) (i : ℕ) → i ≤ 0 → (o : Option ℕ) → IsFound due order i o → MatchOption o ((j : ℕ) → IsLate due order j → ⊥) (λ e. (j : ℕ) × (e ≡ j + 1) × IsFirst (IsLate due order) j)
found_first due order i z None f = λ j. f j (omega (arith, z))
found_first due order i z (Some e) f = (f.0, f.1, (f.3, λ m l. f.4 m (omega (arith, z)) l))
