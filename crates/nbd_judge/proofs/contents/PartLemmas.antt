-- A part that may be served lies in its request's range.
use Rattle.nbd_judge.proofs.{Common.{◌≡◌, ℕ, ◌+◌, ◌-◌, ◌<◌, ◌≤◌, inl, inr, List, refl, sym, ◌∙◌, ap, subst, take, Option, Some, None, true, arith, slice_get, cases_Bool, cases_eq, Entry, Part, IsMisplaced, inside_of, Exporting, IsBadPart, Asked, Report, asked_at, inside_asked, inside_in, IsPartIn}, contents.CompareLemmas.in_from}

-- what lies inside a request lies in its range
inside_range : (export : Option Exporting) (a : Asked) (x : ℕ) → inside_of a.proper export a.command a.offset a.length x ≡ true → (a.offset ≤ x) × (x < a.offset + a.length)
inside_range (Some export) a x h = grind arith
inside_range None a x h = absurd (grind arith)

pub well_placed : (r : Report) (order : List Entry) (i : ℕ) (e : Entry) → slice_get order i ≡ Some e → (a : Asked) → asked_at e.request r.asked ≡ Some a → (IsBadPart (inside_in r) order i → ⊥) → IsPartIn e.part a
well_placed r order i e at a told well = go e.part refl
  where
    lies : (p : Part) → e.part ≡ Some p → (x : ℕ) → p.offset ≤ x → x < p.offset + p.length → (a.offset ≤ x) × (x < a.offset + a.length)
    lies p q x lo hi = elim (cases_Bool (inside_in r e.request x)) [
      | inl is ↦ inside_range r.export a x (sym (ap (λ o. inside_asked r.export o x) told) ∙ is)
      | inr is ↦ absurd (well (e, at, subst (λ o. IsMisplaced (inside_in r e.request) (take i order) e.request o) (sym q) (inr (inl (x, in_from p.offset p.length x lo hi, is)))))
    ]

    go : (p : Option Part) → e.part ≡ p → IsPartIn p a
    go None q = tt
    go (Some p) q = elim (cases_eq p.length 0) [
      | inl empty ↦ absurd (well (e, at, subst (λ o. IsMisplaced (inside_in r e.request) (take i order) e.request o) (sym q) (inl empty)))
      | inr some ↦
          (let first = lies p q p.offset (omega arith) (omega arith) in
          let last = lies p q (p.offset + (p.length - 1)) (omega arith) (omega arith) in
          let hi = last.1 in
          (first.0, omega (arith, hi)))
    ]
