-- An order of a session in two parts, of which the first has n requests, each of them due in it.
use Rattle.nbd_order.proofs.{Common.{◌≡◌, ℕ, ◌+◌, ◌<◌, ◌≤◌, ◌==◌, ◌&&◌, ◌||◌, List, [], ◌∷◌, refl, sym, ap, subst, ◌∙◌, Bool, true, IsTrue, Option, Some, None, arith, nat_lt, Entry, Part, Names, IsAgain, IsMisplaced, in_part, is_served, inl, inr, and_from, or_cases, or_left, or_right, eq-eqb, lt-ltb, cases_lt}, SplitCoreLemmas.{plus, same_number}}
use Rattle.std.specs.Prelude.{◌++◌, ◌⊎◌, ◌-◌}
use Rattle.std.proofs.{lemmas.Bool.le-leb, Common.{append-nil, append_assoc}}
use Rattle.nbd_wire.specs.Prelude.{IsServedAt, NamesWhole}
use Rattle.nbd_laws.proofs.service.EntryLemmas.{AreFine, AreFine-as, AreFine-left, AreFine-right, HasNoFault, IsFine, IsInTime, IsInTime-right, Names-append_cases, names_served, served-append, served_at-left, served_behind, whole_names}
use Rattle.nbd_order.specs.Splits.{behind}

-- an entry as one of the whole
abbrev moved : ℕ → Entry → Entry
moved n e = record { request = n + e.request; part = e.part }

-- each names a request with the property
abbrev pub Each : (ℕ → Type 0) → List Entry → Type 0
Each P [] = Unit {0}
Each P (e ∷ es) = P e.request × Each P es

-- each names a request
abbrev pub AreNamed : List Entry → Type 0
AreNamed es = Each (λ k. 0 < k) es

-- each names a request of the first part
abbrev pub AreLow : ℕ → List Entry → Type 0
AreLow n es = Each (λ k. (0 < k) × (k ≤ n)) es

each_names : (P : ℕ → Type 0) (es : List Entry) (k : ℕ) → Each P es → Names es k → P k
each_names P [] k each h = absurd h
each_names P (e ∷ es) k each h = elim h [ inl q ↦ subst P q each.0 | inr r ↦ each_names P es k each.1 r ]

pub each_of_fine : (P : ℕ → Type 0) (n : ℕ) (inside : ℕ → ℕ → Bool) (before es : List Entry) → ((k : ℕ) → 0 < k → k ≤ n → P k) → AreFine n inside before es → Each P es
each_of_fine P n inside before [] all f = tt
each_of_fine P n inside before (e ∷ es) all f = (all e.request f.0.0 f.0.1, each_of_fine P n inside (before ++ e ∷ []) es all f.1)

pub low_of_fine : (n : ℕ) (inside : ℕ → ℕ → Bool) (es : List Entry) → AreFine n inside [] es → AreLow n es
low_of_fine n inside es f = each_of_fine _ n inside [] es (λ k p l. (p, l)) f

pub named_of_fine : (n : ℕ) (inside : ℕ → ℕ → Bool) (es : List Entry) → AreFine n inside [] es → AreNamed es
named_of_fine n inside es f = each_of_fine _ n inside [] es (λ k p l. p) f

low_names : (n : ℕ) (es : List Entry) (k : ℕ) → AreLow n es → Names es k → (0 < k) × (k ≤ n)
low_names n es k = each_names (λ k. (0 < k) × (k ≤ n)) es k

named_names : (es : List Entry) (k : ℕ) → AreNamed es → Names es k → 0 < k
named_names es k = each_names (λ k. 0 < k) es k

-- what entries serve of a request those of the whole serve of the one that stands for it
pub served_moved : (n : ℕ) (es : List Entry) (k x : ℕ) → is_served (behind n es) (n + k) x ≡ is_served es k x
served_moved n [] k x = refl
served_moved n (e ∷ es) k x =
    ap (λ b. (b && in_part e.part x) || is_served (behind n es) (n + k) x)
    (same_number n e.request k)
    ∙ ap (λ b. ((e.request == k) && in_part e.part x) || b) (served_moved n es k x)

pub names_to : (n : ℕ) (es : List Entry) (k : ℕ) → Names es k → Names (behind n es) (n + k)
names_to n [] k h = h
names_to n (e ∷ es) k h = elim h [ inl q ↦ inl (ap (λ j. n + j) q) | inr r ↦ inr (names_to n es k r) ]

pub names_from : (n : ℕ) (es : List Entry) (k : ℕ) → Names (behind n es) (n + k) → Names es k
names_from n [] k h = h
names_from n (e ∷ es) k h = elim h [ inl q ↦ inl (let p : n + e.request ≡ n + k = q in omega (arith, p)) | inr r ↦ inr (names_from n es k r) ]

whole_to : (n : ℕ) (es : List Entry) (k : ℕ) → NamesWhole es k → NamesWhole (behind n es) (n + k)
whole_to n [] k h = h
whole_to n (e ∷ es) k h = elim h [ inl q ↦ inl (ap (λ j. n + j) q.0, q.1) | inr r ↦ inr (whole_to n es k r) ]

whole_from : (n : ℕ) (es : List Entry) (k : ℕ) → NamesWhole (behind n es) (n + k) → NamesWhole es k
whole_from n [] k h = h
whole_from n (e ∷ es) k h = elim h [ inl q ↦ inl ((let p : n + e.request ≡ n + k = q.0 in omega (arith, p)), q.1) | inr r ↦ inr (whole_from n es k r) ]

whole_right : (es fs : List Entry) (k : ℕ) → NamesWhole fs k → NamesWhole (es ++ fs) k
whole_right [] fs k h = h
whole_right (e ∷ es) fs k h = inr (whole_right es fs k h)

whole_cases : (es fs : List Entry) (k : ℕ) → NamesWhole (es ++ fs) k → NamesWhole es k ⊎ NamesWhole fs k
whole_cases [] fs k h = inr h
whole_cases (e ∷ es) fs k h = elim h [ inl q ↦ inl (inl q) | inr r ↦ elim (whole_cases es fs k r) [ inl a ↦ inl (inr a) | inr b ↦ inr b ] ]

names_right : (es fs : List Entry) (k : ℕ) → Names fs k → Names (es ++ fs) k
names_right [] fs k h = h
names_right (e ∷ es) fs k h = inr (names_right es fs k h)

-- a request of the second part is none of those below it
no_name : (n : ℕ) (es : List Entry) (k : ℕ) → AreLow n es → 0 < k → Names es (n + k) → ⊥
no_name n es k low h named = let l : n + k ≤ n = (low_names n es (n + k) low named).1 in absurd (omega (arith, l, h))

-- and none of those of the second part is one of the first
no_moved : (n : ℕ) (es : List Entry) (k : ℕ) → AreNamed es → k ≤ n → Names (behind n es) k → ⊥
no_moved n [] k named l h = h
no_moved n (e ∷ es) k named l h = elim h [ inl q ↦ (let p : n + e.request ≡ k = q in let z : 0 < e.request = named.0 in absurd (omega (arith, p, z, l))) | inr r ↦ no_moved n es k named.1 l r ]

append_moved : (n : ℕ) (es fs : List Entry) → behind n (es ++ fs) ≡ behind n es ++ behind n fs
append_moved n [] fs = refl
append_moved n (e ∷ es) fs = ap (λ l. moved n e ∷ l) (append_moved n es fs)

unplus : (n : ℕ) (o : Option ℕ) (m : ℕ) → plus n o ≡ Some m → (v : ℕ) × (o ≡ Some v) × (n + v ≡ m)
unplus n None m h = absurd (let q : None ≡ Some m = h in (cc))
unplus n (Some v) m h = (v, refl, (let q : Some (n + v) ≡ Some m = h in cc))

misplaced_as : (within other : ℕ → Bool) (es fs : List Entry) (j k : ℕ) (p : Option Part) → within ≡ other → ((x : ℕ) → IsTrue (is_served es j x) → IsTrue (is_served fs k x)) → IsMisplaced within es j p → IsMisplaced other fs k p
misplaced_as within other es fs j k None same served m = m
misplaced_as within other es fs j k (Some p) same served (inl z) = inl z
misplaced_as within other es fs j k (Some p) same served (inr (inl o)) = inr (inl (o.0, o.1, ap (λ f. f o.0) (sym same) ∙ o.2))
misplaced_as within other es fs j k (Some p) same served (inr (inr s)) = inr (inr (s.0, s.1, served s.0 s.2))

module _ (n more : ℕ) (due due1 due2 : ℕ → ℕ → Option ℕ) (inside inside1 inside2 : ℕ → ℕ → Bool)
    (due_low : (k x : ℕ) → 0 < k → k ≤ n → due k x ≡ due1 k x) (due_high : (k x : ℕ) → 0 < k → due (n + k) x ≡ plus n (due2 k x))
    (in_low : (k : ℕ) → 0 < k → k ≤ n → inside k ≡ inside1 k) (in_high : (k : ℕ) → 0 < k → inside (n + k) ≡ inside2 k)
    (met : (k x : ℕ) → 0 < k → k ≤ n → (m : ℕ) × (due1 k x ≡ Some m) × (m ≤ n)) where
  -- what was due in the whole behind the first part was due in the second one
  due_back : (k x m : ℕ) → n < k → due k x ≡ Some m → (j : ℕ) × (v : ℕ) × (k ≡ n + j) × (0 < j) × (due2 j x ≡ Some v) × (n + v ≡ m)
  due_back k x m l d =
      let same : k ≡ n + (k - n) = omega (arith, l) in
      let p : 0 < k - n = omega (arith, l) in
      let v = unplus n (due2 (k - n) x) m (sym (due_high (k - n) x p) ∙ ap (λ i. due i x) (sym same) ∙ d) in
      (k - n, v.0, same, p, v.1, v.2)

  -- an offset that an entry serves
  offset_of : (count : ℕ) (before : List Entry) (e : Entry) → IsFine count inside before e → (x : ℕ) × (in_part e.part x ≡ true)
  offset_of count before e f = go e.part (λ h. f.2.1 h)
    where
      go : (p : Option Part) → (IsMisplaced (inside e.request) before e.request p → ⊥) → (x : ℕ) × (in_part p x ≡ true)
      go None h = (0, refl)
      go (Some p) h = elim (cases_lt 0 p.length) [
        | inl l ↦ (p.offset, ap (λ b. b && nat_lt p.offset (p.offset + p.length)) (le-leb p.offset p.offset (omega arith)) ∙ lt-ltb p.offset (p.offset + p.length) (omega (arith, l)))
        | inr l ↦ absurd (h (inl (omega (arith, l))))
      ]

  serves_it : (e : Entry) (es : List Entry) (x : ℕ) → in_part e.part x ≡ true → IsTrue (is_served (e ∷ es) e.request x)
  serves_it e es x here = or_left ((e.request == e.request) && in_part e.part x) (is_served es e.request x) (and_from (e.request == e.request) (in_part e.part x) (eq-eqb e.request e.request refl) here)

  back : (e : Entry) → n < e.request → moved n (record { request = e.request - n; part = e.part }) ≡ e
  back e l = ap (λ k. record { request = k; part = e.part }) (let q : n + (e.request - n) ≡ e.request = omega (arith, l) in q)

  -- entries that serve nothing that was due in the first part are of the second one
  all_high : (count : ℕ) (before es : List Entry) → AreFine count inside before es → ((k x m : ℕ) → IsTrue (is_served es k x) → due k x ≡ Some m → n < m) → (later : List Entry) × (es ≡ behind n later) × AreNamed later
  all_high count before [] f late = ([], refl, tt)
  all_high count before (e ∷ es) f late =
      let o = offset_of count before e f.0 in
      let high : n < e.request = elim (cases_lt n e.request) [
        | inl l ↦ l
        | inr l ↦ (let d = met e.request o.0 f.0.0 l in
            let m : d.0 ≤ n = d.2 in
            let h : n < d.0 = late e.request o.0 d.0 (serves_it e es o.0 o.1) (due_low e.request o.0 f.0.0 l ∙ d.1) in
            absurd (omega (arith, m, h)))
      ] in
      let r = all_high count (before ++ e ∷ []) es f.1 (λ k x m s. late k x m (served_behind e es k x s)) in
      (record { request = e.request - n; part = e.part } ∷ r.0, ap (λ y. y ∷ es) (sym (back e high)) ∙ ap (λ l. moved n (record { request = e.request - n; part = e.part }) ∷ l) r.1, ((let q : 0 < e.request - n = omega (arith, high) in q), r.2))

  -- an order has the entries of the first part first
  pub parted : (count : ℕ) (before es : List Entry) → AreFine count inside before es → IsInTime due es → (earlier : List Entry) × (later : List Entry) × (es ≡ earlier ++ behind n later) × AreLow n earlier × AreNamed later
  parted count before [] f t = ([], [], refl, tt, tt)
  parted count before (e ∷ es) f t = elim (cases_lt n e.request) [
    | inl l ↦ (let r = all_high count before (e ∷ es) f (λ k x m s d. (let g : e.request ≤ m = t.0 k x m s d in omega (arith, g, l))) in ([], r.0, r.1, tt, r.2))
    | inr l ↦ (let r = parted count (before ++ e ∷ []) es f.1 t.1 in (e ∷ r.0, r.1, ap (λ y. e ∷ y) r.2, ((f.0.0, l), r.3), r.4))
  ]

  -- whether an entry may be served in the second part, and in the whole
  module _ (earlier : List Entry) (low : AreLow n earlier) where
    again_to : (before : List Entry) (k : ℕ) (p : Option Part) → IsAgain before k p → IsAgain (earlier ++ behind n before) (n + k) p
    again_to before k None h = names_right earlier (behind n before) (n + k) (names_to n before k h)
    again_to before k (Some p) h = whole_right earlier (behind n before) (n + k) (whole_to n before k h)

    again_from : (before : List Entry) (k : ℕ) (p : Option Part) → 0 < k → IsAgain (earlier ++ behind n before) (n + k) p → IsAgain before k p
    again_from before k None h a = elim (Names-append_cases earlier (behind n before) (n + k) a) [ inl q ↦ absurd (no_name n earlier k low h q) | inr q ↦ names_from n before k q ]
    again_from before k (Some p) h a = elim (whole_cases earlier (behind n before) (n + k) a) [ inl q ↦ absurd (no_name n earlier k low h (whole_names earlier (n + k) q)) | inr q ↦ whole_from n before k q ]

    served_to : (before : List Entry) (k x : ℕ) → IsTrue (is_served before k x) → IsTrue (is_served (earlier ++ behind n before) (n + k) x)
    served_to before k x h = served-append earlier (behind n before) (n + k) x ∙ or_right (is_served earlier (n + k) x) (is_served (behind n before) (n + k) x) (served_moved n before k x ∙ h)

    pub served_from : (before : List Entry) (k x : ℕ) → 0 < k → IsTrue (is_served (earlier ++ behind n before) (n + k) x) → IsTrue (is_served before k x)
    served_from before k x h s = elim (or_cases (is_served earlier (n + k) x) (is_served (behind n before) (n + k) x) (sym (served-append earlier (behind n before) (n + k) x) ∙ s)) [
      | inl q ↦ absurd (no_name n earlier k low h (names_served earlier (n + k) x q))
      | inr q ↦ sym (served_moved n before k x) ∙ q
    ]

    misplaced_to : (before : List Entry) (k : ℕ) (p : Option Part) → 0 < k → IsMisplaced (inside2 k) before k p → IsMisplaced (inside (n + k)) (earlier ++ behind n before) (n + k) p
    misplaced_to before k p h = misplaced_as (inside2 k) (inside (n + k)) before (earlier ++ behind n before) k (n + k) p (sym (in_high k h)) (served_to before k)

    misplaced_from : (before : List Entry) (k : ℕ) (p : Option Part) → 0 < k → IsMisplaced (inside (n + k)) (earlier ++ behind n before) (n + k) p → IsMisplaced (inside2 k) before k p
    misplaced_from before k p h = misplaced_as (inside (n + k)) (inside2 k) (earlier ++ behind n before) before (n + k) k p (in_high k h) (λ x. served_from before k x h)

    next_before : (before : List Entry) (e : Entry) → (earlier ++ behind n before) ++ moved n e ∷ [] ≡ earlier ++ behind n (before ++ e ∷ [])
    next_before before e = append_assoc earlier (behind n before) (moved n e ∷ []) ∙ ap (λ l. earlier ++ l) (sym (append_moved n before (e ∷ [])))

    pub fine_from : (before later : List Entry) → AreNamed later → AreFine (n + more) inside (earlier ++ behind n before) (behind n later) → AreFine more inside2 before later
    fine_from before [] named f = tt
    fine_from before (e ∷ later) named f =
        let l : n + e.request ≤ n + more = f.0.1 in (
          (named.0, (let q : e.request ≤ more = omega (arith, l) in q), ((λ a. f.0.2.0 (again_to before e.request e.part a)), (λ m. f.0.2.1 (misplaced_to before e.request e.part named.0 m)))),
          fine_from (before ++ e ∷ []) later named.1 (subst (λ l. AreFine (n + more) inside l (behind n later)) (next_before before e) f.1),
        )

    pub fine_to : (before later : List Entry) → AreFine more inside2 before later → AreFine (n + more) inside (earlier ++ behind n before) (behind n later)
    fine_to before [] f = tt
    fine_to before (e ∷ later) f =
        let l : e.request ≤ more = f.0.1 in
        let p : 0 < e.request = f.0.0 in (
          ((let q : 0 < n + e.request = omega (arith, p) in q), (let q : n + e.request ≤ n + more = omega (arith, l) in q), ((λ a. f.0.2.0 (again_from before e.request e.part p a)), (λ m. f.0.2.1 (misplaced_from before e.request e.part p m)))),
          subst (λ l. AreFine (n + more) inside l (behind n later)) (sym (next_before before e)) (fine_to (before ++ e ∷ []) later f.1),
        )

  -- the first part of what is in time is in time, and so is the second
  time_first : (es fs : List Entry) → AreLow n es → IsInTime due (es ++ fs) → IsInTime due1 es
  time_first [] fs low t = tt
  time_first (e ∷ es) fs low t = (
    (λ k x m s d.
        let w = low_names n (e ∷ es) k low (names_served (e ∷ es) k x s) in
        t.0 k x m (served-append (e ∷ es) fs k x ∙ or_left (is_served (e ∷ es) k x) (is_served fs k x) s) (due_low k x w.0 w.1 ∙ d)),
    time_first es fs low.1 t.1,
  )

  time_second : (es : List Entry) → AreNamed es → IsInTime due (behind n es) → IsInTime due2 es
  time_second [] named t = tt
  time_second (e ∷ es) named t = (
    (λ k x m s d.
        let p = named_names (e ∷ es) k named (names_served (e ∷ es) k x s) in
        let g : n + e.request ≤ n + m = t.0 (n + k) x (n + m) (served_moved n (e ∷ es) k x ∙ s) (due_high k x p ∙ ap (plus n) d) in
        omega (arith, g)),
    time_second es named.1 t.1,
  )

  pub in_parts : (order earlier later : List Entry) → order ≡ earlier ++ behind n later → AreLow n earlier → AreNamed later → HasNoFault (n + more) due inside order → HasNoFault n due1 inside1 earlier × HasNoFault more due2 inside2 later
  in_parts order earlier later is low named h =
      let whole : HasNoFault (n + more) due inside (earlier ++ behind n later) = subst (HasNoFault (n + more) due inside) is h in (
        record {
          fine = AreFine-as (n + more) n inside inside1 [] earlier (λ k q p l. (let w = low_names n earlier k low q in (w.1, in_low k w.0 w.1))) (AreFine-left (n + more) inside [] earlier (behind n later) whole.fine);
          in_time = time_first earlier (behind n later) low whole.in_time;
          served = λ k x m p l d.
              let s : IsServedAt (inside k) (earlier ++ behind n later) k x = whole.served k x m p (let q : k ≤ n + more = omega (arith, l) in q) (due_low k x p l ∙ d) in
              record {
                named = elim (Names-append_cases earlier (behind n later) k s.named) [ inl q ↦ q | inr q ↦ absurd (no_moved n later k named l q) ];
                covered = λ i. elim (or_cases (is_served earlier k x) (is_served (behind n later) k x) (sym (served-append earlier (behind n later) k x) ∙ s.covered (ap (λ f. f x) (in_low k p l) ∙ i))) [
                  | inl q ↦ q
                  | inr q ↦ absurd (no_moved n later k named l (names_served (behind n later) k x q))
                ];
              };
        },
        record {
          fine = fine_from earlier low [] later named (subst (λ l. AreFine (n + more) inside l (behind n later)) (sym (append-nil earlier)) (AreFine-right (n + more) inside [] earlier (behind n later) whole.fine));
          in_time = time_second later named (IsInTime-right due earlier (behind n later) whole.in_time);
          served = λ k x m p l d.
              let s : IsServedAt (inside (n + k)) (earlier ++ behind n later) (n + k) x = whole.served (n + k) x (n + m) (let q : 0 < n + k = omega (arith, p) in q) (let q : n + k ≤ n + more = omega (arith, l) in q) (due_high k x p ∙ ap (plus n) d) in
              record {
                named = elim (Names-append_cases earlier (behind n later) (n + k) s.named) [ inl q ↦ absurd (no_name n earlier k low p q) | inr q ↦ names_from n later k q ];
                covered = λ i. served_from earlier low later k x p (s.covered (ap (λ f. f x) (in_high k p) ∙ i));
              };
        },
      )

  fine_append : (count : ℕ) (before es fs : List Entry) → AreFine count inside before es → AreFine count inside (before ++ es) fs → AreFine count inside before (es ++ fs)
  fine_append count before [] fs f g = subst (λ l. AreFine count inside l fs) (append-nil before) g
  fine_append count before (e ∷ es) fs f g = (f.0, fine_append count (before ++ e ∷ []) es fs f.1 (subst (λ l. AreFine count inside l fs) (sym (append_assoc before (e ∷ []) es)) g))

  time_to : (es : List Entry) → AreNamed es → IsInTime due2 es → IsInTime due (behind n es)
  time_to [] named t = tt
  time_to (e ∷ es) named t = (
    (λ k x m s d. elim (cases_lt n k) [
      | inl l ↦ (let w = due_back k x m l d in
          let g = t.0 w.0 x w.1 (sym (served_moved n (e ∷ es) w.0 x) ∙ subst (λ i. IsTrue (is_served (behind n (e ∷ es)) i x)) w.2 s) w.4 in
          omega (arith, g, w.5))
      | inr l ↦ absurd (no_moved n (e ∷ es) k named l (names_served (behind n (e ∷ es)) k x s))
    ]),
    time_to es named.1 t.1,
  )

  time_whole : (es fs : List Entry) → AreLow n es → AreNamed fs → IsInTime due1 es → IsInTime due2 fs → IsInTime due (es ++ behind n fs)
  time_whole [] fs low named t u = time_to fs named u
  time_whole (e ∷ es) fs low named t u = (
    (λ k x m s d. elim (or_cases (is_served (e ∷ es) k x) (is_served (behind n fs) k x) (sym (served-append (e ∷ es) (behind n fs) k x) ∙ s)) [
      | inl q ↦ (let w = low_names n (e ∷ es) k low (names_served (e ∷ es) k x q) in t.0 k x m q (sym (due_low k x w.0 w.1) ∙ d))
      | inr q ↦ elim (cases_lt n k) [
        | inl l ↦ (let w = due_back k x m l d in omega (arith, low.0.1, w.5))
        | inr l ↦ absurd (no_moved n fs k named l (names_served (behind n fs) k x q))
      ]
    ]),
    time_whole es fs low.1 named t.1 u,
  )

  pub in_whole : (earlier later : List Entry) → HasNoFault n due1 inside1 earlier → HasNoFault more due2 inside2 later → HasNoFault (n + more) due inside (earlier ++ behind n later)
  in_whole earlier later first second =
      let low : AreLow n earlier = low_of_fine n inside1 earlier first.fine in
      let named : AreNamed later = named_of_fine more inside2 later second.fine in
      record {
        fine = fine_append (n + more) [] earlier (behind n later)
            (AreFine-as n (n + more) inside1 inside [] earlier (λ k q p l. ((let g : k ≤ n + more = omega (arith, l) in g), sym (in_low k p l))) first.fine)
            (subst (λ l. AreFine (n + more) inside l (behind n later)) (append-nil earlier) (fine_to earlier low [] later second.fine));
        in_time = time_whole earlier later low named first.in_time second.in_time;
        served = λ k x m p l d. elim (cases_lt n k) [
          | inl g ↦ (let w = due_back k x m g d in
              let j = w.0 in
              let s : IsServedAt (inside2 j) later j x = second.served j x w.1 w.3 (omega (arith, w.2, l)) w.4 in
              subst (λ i. IsServedAt (inside i) (earlier ++ behind n later) i x) (sym w.2) record {
                named = names_right earlier (behind n later) (n + j) (names_to n later j s.named);
                covered = λ i. served_to earlier low later j x (s.covered (ap (λ f. f x) (sym (in_high j w.3)) ∙ i));
              })
          | inr g ↦ (let s : IsServedAt (inside1 k) earlier k x = first.served k x m p g (sym (due_low k x p g) ∙ d) in
              served_at-left (inside k) earlier (behind n later) k x (subst (λ f. IsServedAt f earlier k x) (sym (in_low k p g)) s))
        ];
      }
