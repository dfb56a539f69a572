-- The table of what an order serves of each request.
use Rattle.nbd_judge.proofs.Common.{slice_get_within, take-length, IsFaultless, MatchOption, is_some, ◌≡◌, ℕ, zero, suc, ◌+◌, ◌-◌, ◌<◌, ◌≤◌, ◌==◌, ◌&&◌, inl, inr, List, [], ◌∷◌, ◌++◌, length, refl, sym, ◌∙◌, ap, subst, Option, Some, None, Result, Ok, Err, Bool, true, false, if◌then◌else◌, arith, nat_le, nat_lt, cases_Bool, eqb-true, slice_get, slice_set, take, ◌||◌, not, IsTrue, cases_eq, Entry, MayServe, NamesWhole, inside_of, Exporting, has_range, is_chunked, IsBad, IsDue, IsLate, IsUnserved, NamesNone, Part, Profile, is_in, Asked, Report, asked_at, due_in, due_of, first_shown, inside_asked, inside_in, lesser_of, Names-left, Names-push_cases, NamesWhole-left, total, Span, IsIndex, sizes_of, Service, Unnamed, Whole, InParts, OrderFault, Twice, Missing, BadPart, NotCovered, IsOrderFault, has_inside, AreServices, IsAllServed, IsBadAt, IsFaultAfter, IsFaultOfService, IsFirstBad, IsNext, IsServiceAfter, IsServiceOf, IsShownAt, IsSpanOf, IsUnservedBy, LieApart, TellsFaultOf, TellsUnserved, part_pieces, parts_of, span_if, span_of_asked, IsFair, nat_tests, and-false, and_assoc, IsMisplaced, IsAgain}
use Rattle.nbd_judge.proofs.{orders.DueLemmas.{due_chunked, due_none, due_whole}, contents.EffectLemmas.taken_one}
use Rattle.nbd_wire.specs.declared.commands.TheConstants as commands
use Rattle.nbd_judge.specs.internal.Services.{IsFaultOf}

-- a range, as far as the export goes
span_is : (size : ℕ) (b : Bool) (offset len x : ℕ) → let span : Span = span_if (b && nat_lt offset size) offset len size in (b && (is_in offset len x && nat_lt x size)) ≡ is_in span.offset span.size x
span_is size b offset len x = grind (arith, nat_tests)

span_of_inside : (export : Option Exporting) (a : Asked) → IsSpanOf (span_of_asked export a) (inside_of a.proper export a.command a.offset a.length)
span_of_inside (Some export) a x = sym (and_assoc (a.proper || not (a.command == commands.BLOCK_STATUS)) (has_range a.command) _) ∙ span_is export.size (has_inside a) a.offset a.length x
span_of_inside None a x = and-false (a.proper || not (a.command == commands.BLOCK_STATUS)) ∙ grind (arith, nat_tests, span_is 0 (has_inside a) a.offset a.length x)

pub span_of_request : (r : Report) (k : ℕ) (a : Asked) → asked_at k r.asked ≡ Some a → IsSpanOf (span_of_asked r.export a) (inside_in r k)
span_of_request r k a at x = ap (λ o. inside_asked r.export o x) at ∙ span_of_inside r.export a x

-- the place of a request
pub request_within : (k : ℕ) (asked : List Asked) (a : Asked) → asked_at k asked ≡ Some a → (0 < k) × (k ≤ length asked) × (slice_get asked (k - 1) ≡ Some a)
request_within zero asked a e = absurd (let q : None ≡ Some a = e in cc)
request_within (suc k) asked a e = (omega arith, slice_get_within asked k a e, ap (slice_get asked) (omega arith) ∙ e)

-- entries that name another request
parts_other : (es : List Entry) (e : Entry) (k : ℕ) → (e.request ≡ k → ⊥) → parts_of (es ++ e ∷ []) k ≡ parts_of es k
parts_other [] e k ne = elim (cases_Bool (e.request == k)) [
  | inl named ↦ absurd (ne (eqb-true e.request k named))
  | inr other ↦ ap (λ b. (if b then part_pieces e.part else []) ++ []) other
]
parts_other (d ∷ es) e k ne = ap (λ l. (if d.request == k then part_pieces d.part else []) ++ l) (parts_other es e k ne)

whole_other : (es : List Entry) (e : Entry) (k : ℕ) → (e.request ≡ k → ⊥) → NamesWhole (es ++ e ∷ []) k → NamesWhole es k
whole_other [] e k ne h = elim h [ inl q ↦ absurd (ne q.0) | inr n ↦ n ]
whole_other (d ∷ es) e k ne h = elim h [ inl q ↦ inl q | inr n ↦ inr (whole_other es e k ne n) ]

service_other : (s : Service) (span : Span) (before : List Entry) (e : Entry) (k : ℕ) → (e.request ≡ k → ⊥) → IsServiceOf s span before k → IsServiceOf s span (before ++ e ∷ []) k
service_other Unnamed span before e k ne h = λ n. elim (Names-push_cases before e k n) [ inl a ↦ h a | inr q ↦ ne q ]
service_other Whole span before e k ne h = NamesWhole-left before (e ∷ []) k h
service_other (InParts parts) span before e k ne h = (
  Names-left before (e ∷ []) k h.0,
  record {
    in_parts = λ w. h.1.in_parts (whole_other before e k ne w);
    index = subst (IsIndex (sizes_of parts.value.spans)) (sym (parts_other before e k ne)) h.1.index;
    laid = subst (LieApart span) (sym (parts_other before e k ne)) h.1.laid;
    count = subst (λ ps. parts.value.left ≡ span.size - total ps) (sym (parts_other before e k ne)) h.1.count;
  },
)

set_same : {A : Type 0} (xs : List A) (i : ℕ) (x y : A) → slice_get (slice_set xs i x) i ≡ Some y → x ≡ y
set_same [] i x y e = absurd (let q : None ≡ Some y = e in cc)
set_same (z ∷ xs) zero x y e = cc
set_same (z ∷ xs) (suc i) x y e = set_same xs i x y e

set_other : {A : Type 0} (xs : List A) (i j : ℕ) (x : A) → (j ≡ i → ⊥) → slice_get (slice_set xs i x) j ≡ slice_get xs j
set_other (z ∷ xs) zero zero x ne = absurd (ne refl)
set_other (z ∷ xs) (suc i) (suc j) x ne = set_other xs i j x (λ e. ne (ap suc e))
set_other xs i j x ne = refl

set_length : {A : Type 0} (xs : List A) (i : ℕ) (x : A) → length (slice_set xs i x) ≡ length xs
set_length [] i x = refl
set_length (z ∷ xs) zero x = refl
set_length (z ∷ xs) (suc i) x = ap suc (set_length xs i x)

-- entry i, of a request that there is
module _ (r : Report) (order : List Entry) (i : ℕ) (e : Entry) (at : slice_get order i ≡ Some e) (a : Asked) (told : asked_at e.request r.asked ≡ Some a)
    (table : List Service) (h : AreServices r order i table) (old : Service) (cell : slice_get table (e.request - 1) ≡ Some old) where
  abbrev place : ℕ
  place = e.request - 1

  back : suc place ≡ e.request
  back = (let p : 0 < e.request = (request_within e.request r.asked a told).0 in omega arith)

  old_of : IsServiceOf old (span_of_asked r.export a) (take i order) e.request
  old_of = subst (IsServiceOf old (span_of_asked r.export a) (take i order)) back (h.each place old a cell (request_within e.request r.asked a told).2)

  same_entry : (d : Entry) → slice_get order i ≡ Some d → d ≡ e
  same_entry d q = (let w : Some d ≡ Some e = sym q ∙ at in cc)

  named : NamesNone (length r.asked) order i → ⊥
  named n = (let w = request_within e.request r.asked a told in let lo : 0 < e.request = w.0 in let hi : e.request ≤ length r.asked = w.1 in
      let q : n.0.request ≡ e.request = ap (λ (d : Entry). d.request) (same_entry n.0 n.1) in
      elim n.2 [ inl z ↦ absurd (omega arith) | inr l ↦ absurd (omega arith) ])

  module _ (after : Result Service OrderFault) (next : IsServiceAfter old (span_of_asked r.export a) e.part after) where
    told_next : IsNext (span_of_asked r.export a) (inside_in r e.request) (take i order) e after
    told_next = next (inside_in r e.request) (take i order) e.request (span_of_request r e.request a told) old_of

  -- an entry that may be served
  pub one_more_served : (s : Service) → IsServiceAfter old (span_of_asked r.export a) e.part (Ok s) → (other : Service) → AreServices r order (i + 1) (slice_set (slice_set table (e.request - 1) other) (e.request - 1) s)
  one_more_served s next other = record {
    len = set_length (slice_set table place other) place s ∙ set_length table place other ∙ h.len;
    none_bad = λ j l b. elim (cases_eq j i) [
      | inl q ↦ none_here (subst (IsBad (length r.asked) (inside_in r) order) q b)
      | inr ne ↦ h.none_bad j (omega arith) b
    ];
    each = λ j t c is asked. subst (λ l. IsServiceOf t (span_of_asked r.export c) l (suc j)) (sym (taken_one order i e at)) (elim (cases_eq j place) [
      | inl q ↦ here j t c q is asked
      | inr ne ↦ service_other t (span_of_asked r.export c) (take i order) e (suc j) (λ z. ne (omega arith))
          (h.each j t c (sym (set_other (slice_set table place other) place j s ne ∙ set_other table place j other ne) ∙ is) asked)
    ]);
  }
    where
      told_ok : MayServe (inside_in r e.request) (take i order) e × IsServiceOf s (span_of_asked r.export a) (take i order ++ e ∷ []) e.request
      told_ok = told_next (Ok s) next

      none_here : IsBad (length r.asked) (inside_in r) order i → ⊥
      none_here b = elim b [
        | inl n ↦ named n
        | inr b ↦ elim b [
          | inl t ↦ told_ok.0.0 (subst (λ (d : Entry). IsAgain (take i order) d.request d.part) (same_entry t.0 t.1) t.2)
          | inr p ↦ told_ok.0.1 (subst (λ (d : Entry). IsMisplaced (inside_in r d.request) (take i order) d.request d.part) (same_entry p.0 p.1) p.2)
        ]
      ]

      here : (j : ℕ) (t : Service) (c : Asked) → j ≡ place → slice_get (slice_set (slice_set table place other) place s) j ≡ Some t → slice_get r.asked j ≡ Some c →
          IsServiceOf t (span_of_asked r.export c) (take i order ++ e ∷ []) (suc j)
      here j t c q is asked =
          let same : s ≡ t = set_same (slice_set table place other) place s t (sym (ap (slice_get (slice_set (slice_set table place other) place s)) q) ∙ is) in
          let same_asked : a ≡ c = (let w : Some a ≡ Some c = sym (request_within e.request r.asked a told).2 ∙ sym (ap (slice_get r.asked) q) ∙ asked in cc) in
          let k : e.request ≡ suc j = sym back ∙ ap suc (sym q) in
          subst (λ n. IsServiceOf t (span_of_asked r.export c) (take i order ++ e ∷ []) n) k
          (subst (λ c. IsServiceOf t (span_of_asked r.export c) (take i order ++ e ∷ []) e.request) same_asked
          (subst (λ t. IsServiceOf t (span_of_asked r.export a) (take i order ++ e ∷ []) e.request) same told_ok.1))

  -- an entry with a fault
  pub first_bad : (fault : OrderFault) → IsServiceAfter old (span_of_asked r.export a) e.part (Err fault) → IsFirstBad r order (i + 1) fault
  first_bad fault next = (i, refl, bad fault (told_next (Err fault) next), h.none_bad)
    where
      bad : (fault : OrderFault) → IsFaultAfter (inside_in r e.request) (take i order) e fault → IsBadAt r order i fault
      bad Twice f = (e, at, f)
      bad BadPart f = ((e, at, f.0), named, λ t. f.1 (subst (λ (d : Entry). IsAgain (take i order) d.request d.part) (same_entry t.0 t.1) t.2))
      bad fault f = absurd f

-- what is served where it was due has no fault
pub not_unserved : (profile : Profile) (r : Report) (order : List Entry) (k : ℕ) → IsAllServed profile r order k → IsUnserved (length r.asked) (due_in profile r) (inside_in r) order k → ⊥
not_unserved profile r order k served u = elim u [ inl m ↦ m.1 (served m.0.0 m.0.1).named | inr n ↦ n.0.2 (served n.0.0 n.0.1) ]

pub some_of : (o : Option ℕ) → is_some o ≡ true → (n : ℕ) × (o ≡ Some n)
some_of (Some n) e = (n, refl)
some_of None e = absurd (let q : false ≡ true = e in cc)

pub none_of : (o : Option ℕ) → is_some o ≡ false → o ≡ None
none_of None e = refl
none_of (Some n) e = absurd (let q : true ≡ false = e in cc)

-- a request and its cell, when the order is through
module _ (r : Report) (order : List Entry) (table : List Service) (h : AreServices r order (length order) table) (k : ℕ) (a : Asked) (s : Service)
    (told : asked_at k r.asked ≡ Some a) (cell : slice_get table (k - 1) ≡ Some s) where
  pub service_at : IsServiceOf s (span_of_asked r.export a) order k
  service_at =
      let w = request_within k r.asked a told in
      let lo : 0 < k = w.0 in
      let same : suc (k - 1) ≡ k = omega arith in
      subst (λ es. IsServiceOf s (span_of_asked r.export a) es k) (take-length order) (subst (IsServiceOf s (span_of_asked r.export a) (take (length order) order)) same (h.each (k - 1) s a cell w.2))

  pub fault_here : (profile : Profile) (found : Option OrderFault) → TellsFaultOf profile a (span_of_asked r.export a) s found → IsFaultOf profile r order k found
  fault_here profile found tells = tells r order k told (span_of_request r k a told) service_at

-- of a request that is not there nothing was due
pub not_asked : (profile : Profile) (r : Report) (order : List Entry) (k : ℕ) → asked_at k r.asked ≡ None → IsAllServed profile r order k
not_asked profile r order k none x (lo, hi, (n, d)) = absurd (let q : None ≡ Some n = sym (ap (λ o. due_of profile (inside_in r k) o x) none ∙ due_none profile (inside_in r k) x) ∙ d in (cc))

-- the fault by what was due is the request's
pub fault_by : (profile : Profile) (r : Report) (order : List Entry) (k : ℕ) (at : ℕ → Type 0) (found : Option OrderFault) → ((x : ℕ) → at x → IsDue (length r.asked) (due_in profile r) k x) → ((x : ℕ) → IsDue (length r.asked) (due_in profile r) k x → at x) →
    ((fault : OrderFault) → found ≡ Some fault → (x : ℕ) × at x) → IsFaultOfService at (inside_in r k) order k found → IsFaultOf profile r order k found
fault_by profile r order k at None due from one f = λ x d. f x (from x d)
fault_by profile r order k at (Some Missing) due from one f = (let o = one Missing refl in ((o.0, due o.0 o.1), f))
fault_by profile r order k at (Some NotCovered) due from one f = ((f.0.0, due f.0.0 f.0.1, f.0.2), f.1)
fault_by profile r order k at found due from one f = absurd f

module _ (profile : Profile) (r : Report) (order : List Entry) (k : ℕ) (a : Asked) (told : asked_at k r.asked ≡ Some a) where
  due_at : (x : ℕ) → due_in profile r k x ≡ due_of profile (inside_in r k) (Some a) x
  due_at x = ap (λ o. due_of profile (inside_in r k) o x) told

  is_due : (x n : ℕ) → due_of profile (inside_in r k) (Some a) x ≡ Some n → IsDue (length r.asked) (due_in profile r) k x
  is_due x n d = (let w = request_within k r.asked a told in (w.0, w.1, (n, due_at x ∙ d)))

  -- one that was due at each offset: by the start of its reply, or by the end of a READ's
  pub all_due : (found : Option OrderFault) → ((x : ℕ) → (n : ℕ) × (due_of profile (inside_in r k) (Some a) x ≡ Some n)) → IsFaultOfService (λ x. Unit {0}) (inside_in r k) order k found → IsFaultOf profile r order k found
  all_due found due f = fault_by profile r order k (λ x. Unit {0}) found (λ x u. is_due x (due x).0 (due x).1) (λ x d. tt) (λ fault q. (0, tt)) f

  pub started : (n x : ℕ) → is_chunked profile a.command ≡ false → a.known_at ≡ Some n → (m : ℕ) × (due_of profile (inside_in r k) (Some a) x ≡ Some m)
  started n x whole e = (n, due_whole profile (inside_in r k) a x whole ∙ e)

  pub ended : (n x : ℕ) → is_chunked profile a.command ≡ true → a.ended_at ≡ Some n → (m : ℕ) × (due_of profile (inside_in r k) (Some a) x ≡ Some m)
  ended n x chunked e = (let o = go (if inside_in r k x then first_shown a.shown x else None) in (o.0, due_chunked profile (inside_in r k) a x chunked ∙ ap (lesser_of (if inside_in r k x then first_shown a.shown x else None)) e ∙ o.1))
    where
      go : (o : Option ℕ) → (m : ℕ) × (lesser_of o (Some n) ≡ Some m)
      go None = (n, refl)
      go (Some v) = (if nat_le v n then v else n, refl)

  -- a READ whose reply has not ended is due where it was shown
  pub shown_due : is_chunked profile a.command ≡ true → a.ended_at ≡ None → (found : Option OrderFault) → ((fault : OrderFault) → found ≡ Some fault → (x : ℕ) × IsShownAt (inside_in r k) a.shown x) →
      IsFaultOfService (IsShownAt (inside_in r k) a.shown) (inside_in r k) order k found → IsFaultOf profile r order k found
  shown_due chunked open_ found one f = fault_by profile r order k (IsShownAt (inside_in r k) a.shown) found
      (λ x (i, (n, s)). is_due x n (due_chunked profile (inside_in r k) a x chunked ∙ ap (lesser_of (if inside_in r k x then first_shown a.shown x else None)) open_ ∙ ap (λ b. lesser_of (if b then first_shown a.shown x else None) None) i ∙ ap (λ o. lesser_of o None) s))
      (λ x (lo, hi, (n, d)). shown x n (sym (due_at x ∙ due_chunked profile (inside_in r k) a x chunked ∙ ap (lesser_of (if inside_in r k x then first_shown a.shown x else None)) open_) ∙ d)) one f
    where
      shown : (x n : ℕ) → lesser_of (if inside_in r k x then first_shown a.shown x else None) None ≡ Some n → IsShownAt (inside_in r k) a.shown x
      shown x n d = elim (cases_Bool (inside_in r k x)) [
        | inl inside ↦ (inside, (n, grind arith))
        | inr outside ↦ absurd (grind arith)
      ]

bad_within : (r : Report) (order : List Entry) (i : ℕ) → IsBad (length r.asked) (inside_in r) order i → i < length order
bad_within r order i b = elim b [
  | inl a ↦ slice_get_within order i a.0 a.1
  | inr b ↦ elim b [ inl a ↦ slice_get_within order i a.0 a.1 | inr a ↦ slice_get_within order i a.0 a.1 ]
]

pub none_bad : (r : Report) (order : List Entry) (table : List Service) → AreServices r order (length order) table → (i : ℕ) → IsBad (length r.asked) (inside_in r) order i → ⊥
none_bad r order table h i b = h.none_bad i (bad_within r order i b) b

-- an entry that is not bad is fair
pub fair : (r : Report) (order : List Entry) → ((i : ℕ) → IsBad (length r.asked) (inside_in r) order i → ⊥) → (i : ℕ) (e : Entry) → slice_get order i ≡ Some e → IsFair r e
fair r order none i e at = record {
  named = (
    (let some : e.request ≡ 0 → ⊥ = λ z. none i (inl (e, at, inl z)) in omega arith),
    (let there : length r.asked < e.request → ⊥ = λ l. none i (inl (e, at, inr l)) in omega arith),
  );
  part = λ p q. ((let ne : p.length ≡ 0 → ⊥ = λ z. bad p q (inl z) in omega arith), λ x h. inside p q x h (inside_in r e.request x) refl);
}
  where
    bad : (p : Part) → e.part ≡ Some p → IsMisplaced (inside_in r e.request) (take i order) e.request (Some p) → ⊥
    bad p q h = none i (inr (inr (e, at, subst (λ o. IsMisplaced (inside_in r e.request) (take i order) e.request o) (sym q) h)))

    inside : (p : Part) → e.part ≡ Some p → (x : ℕ) → IsTrue (is_in p.offset p.length x) → (b : Bool) → inside_in r e.request x ≡ b → b ≡ true
    inside p q x h true z = refl
    inside p q x h false z = absurd (bad p q (inr (inl (x, h, z))))

-- where no entry is bad or late, what the table tells is the answer
pub told_by_table : (profile : Profile) (r : Report) (order : List Entry) (table : List Service) → AreServices r order (length order) table → ((i : ℕ) → IsLate (due_in profile r) order i → ⊥) →
    (o : Option (ℕ × OrderFault)) → TellsUnserved profile r table o → MatchOption o (IsFaultless profile r order) (λ p. IsOrderFault profile r order p.0 p.1)
told_by_table profile r order table h late None tells = record { none_bad = none_bad r order table h; none_late = late; served = λ k x d. tells order h k x d }
told_by_table profile r order table h late (Some p) tells = go p.1 (tells order h)
  where
    go : (fault : OrderFault) → IsUnservedBy profile r order p.0 fault × ((k : ℕ) → k < p.0 → IsUnserved (length r.asked) (due_in profile r) (inside_in r) order k → ⊥) → IsOrderFault profile r order p.0 fault
    go Missing t = ((none_bad r order table h, late, t.1), t.0)
    go NotCovered t = ((none_bad r order table h, late, t.1), t.0)
    go fault t = absurd t.0
