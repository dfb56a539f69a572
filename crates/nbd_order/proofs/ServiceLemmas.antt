-- What an order without a fault serves, and in which order.
use Rattle.nbd_order.proofs.Common.{◌≡◌, ℕ, zero, suc, ◌<◌, ◌≤◌, inl, inr, List, length, refl, sym, ◌∙◌, ap, subst, Option, Some, None, true, false, not, ◌==◌, nat_lt, arith, slice_get, take, IsTrue, cases_lt, eqb-true, false_from_ne_true, lt-ltb, size_of, slice_get_cases, Entry, Part, Profile, IsAgain, IsMisplaced, in_part, is_served, Effect, effect, effects, touches, Exporting, has_range, is_change, is_in, Asked, Report, asked_at, inside_asked, due_in, inside_in, IsFaultless, IsBefore, option_map}
use Rattle.nbd_order.proofs.{OffsetLemmas.lies_inside, TouchLemmas.{from_taken, is_served_by, is_served_from, names_by, served_at, taken}}
use Rattle.nbd_wire.specs.declared.commands.TheConstants as commands

-- a change has a range, and is no BLOCK_STATUS
pub change_ranged : (command : ℕ) → is_change command ≡ true → (has_range command ≡ true) × (not (command == commands.BLOCK_STATUS) ≡ true)
change_ranged command h = (grind arith, grind (arith, eqb-true))

pub in_range : (export : Option Exporting) (o : Option Asked) (e : Effect) (x : ℕ) → (option_map effect) o ≡ Some e → IsTrue (inside_asked export o x)
    → IsTrue (is_in e.offset e.length x) × ((s : Exporting) × (export ≡ Some s) × (x < s.size))
in_range export None e x q h = absurd (cc)
in_range None (Some a) e x q h = absurd (grind arith)
in_range (Some s) (Some a) e x q h = (let same : effect a ≡ e = cc in (ap (λ (d : Effect). is_in d.offset d.length x) (sym same) ∙ grind arith, (s, refl, grind arith)))

pub is_inside : (export : Option Exporting) (o : Option Asked) (e : Effect) (x : ℕ) (s : Exporting) → (option_map effect) o ≡ Some e → IsTrue (touches None e x) → export ≡ Some s → x < s.size
    → IsTrue (inside_asked export o x)
is_inside export None e x s q t p l = absurd (cc)
is_inside export (Some a) e x s q t p l =
    let same : effect a ≡ e = cc in
    let touch : IsTrue (touches None (effect a) x) = ap (λ (d : Effect). touches None d x) same ∙ t in
    let c : is_change a.command ≡ true = grind arith in
    let w = change_ranged a.command c in
    lies_inside export a x (grind (arith, w.1)) w.0 (grind arith) (ap (λ o. nat_lt x (size_of o)) p ∙ lt-ltb x s.size l)

pub numbered : (k : ℕ) (asked : List Asked) (e : Effect) → (option_map effect) (asked_at k asked) ≡ Some e → (0 < k) × (k ≤ length asked)
numbered zero asked e q = absurd (cc)
numbered (suc k) asked e q = elim (slice_get_cases asked k).1 [
  | inl some ↦ (let l = some.1 in omega (arith, l))
  | inr past ↦ absurd (cc (past.1))
]

module _ (profile : Profile) (r : Report) (order : List Entry) (whole : IsFaultless profile r order) where
  -- what surely comes before at an offset that it serves stands before
  pub stands_before : (a b x : ℕ) (d e : Entry) → slice_get order a ≡ Some d → slice_get order b ≡ Some e → IsTrue (in_part d.part x) → IsBefore profile r x d.request e.request → a < b
  stands_before a b x d e at bt here h = elim (cases_lt a b) [
    | inl l ↦ l
    | inr l ↦ absurd (whole.none_late b (e, d.request, x, h.0, bt, is_served_from order d.request x b a d l at refl here, h.1, h.2))
  ]

  -- a request is served at an offset inside it, once it was due there
  pub is_reached : (p x n : ℕ) (e : Effect) → effects r p ≡ Some e → due_in profile r p x ≡ Some n → IsTrue (inside_in r p x) → IsTrue (is_served order p x)
  is_reached p x n e is due here =
      let num = numbered p r.asked e is in
      (whole.served p x (num.0, num.1, (n, due))).covered here

  -- what surely comes before an entry, and is served at x, is served there before it
  pub served_before : (i p x : ℕ) (d : Entry) → slice_get order i ≡ Some d → IsTrue (is_served order p x) → IsBefore profile r x p d.request
      → is_served (take i order) p x ≡ true
  served_before i p x d at reached before =
      let s = served_at order p x reached in
      let l : s.0 < i = stands_before s.0 i x s.1 d s.2 at s.4 (subst (λ q. IsBefore profile r x q d.request) (sym s.3) before) in
      is_served_by (take i order) p x s.0 s.1 (taken order i s.0 s.1 l s.2) s.3 s.4

  -- what an entry's request surely comes before, at an offset that it serves, is not served before it
  pub not_served_before : (i o x : ℕ) (d : Entry) → slice_get order i ≡ Some d → in_part d.part x ≡ true → IsBefore profile r x d.request o → is_served (take i order) o x ≡ false
  not_served_before i o x d at here before = false_from_ne_true (is_served (take i order) o x) λ h.
      let s = served_at (take i order) o x h in
      let f = from_taken order i s.0 s.1 s.2 in
      let l : s.0 < i = f.0 in
      let g : i < s.0 = stands_before i s.0 x d s.1 at f.1 here (subst (λ q. IsBefore profile r x d.request q) (sym s.3) before) in
      omega arith

  -- an offset of a request is served once
  pub served_once : (i x : ℕ) (d : Entry) → slice_get order i ≡ Some d → in_part d.part x ≡ true → is_served (take i order) d.request x ≡ false
  served_once i x d at here = false_from_ne_true (is_served (take i order) d.request x) λ h. go h d.part refl
    where
      go : is_served (take i order) d.request x ≡ true → (p : Option Part) → d.part ≡ p → ⊥
      go h None q =
          let s = served_at (take i order) d.request x h in
          whole.none_bad i (inr (inl (d, at, subst (λ p. IsAgain (take i order) d.request p) (sym q) (names_by (take i order) d.request s.0 s.1 s.2 s.3))))
      go h (Some p) q = whole.none_bad i (inr (inr (d, at, subst (λ o. IsMisplaced (inside_in r d.request) (take i order) d.request o) (sym q) (inr (inr (x, ap (λ o. in_part o x) (sym q) ∙ here, h))))))
