-- Where there is a refutation, each order has a fault or a wrong byte of one of its READs.
use Rattle.nbd_order.proofs.Common.{◌≡◌, ℕ, zero, suc, ◌<◌, ◌≤◌, inl, inr, List, length, refl, sym, ◌∙◌, ap, subst, Option, Some, None, Bool, true, false, ◌&&◌, ◌||◌, ◌==◌, arith, slice_get, take, IsTrue, take-length, and_from, and_parts, both_ways, cases_Bool, eqb-true, false_from_ne_true, or_cases, or_from, or_left, or_right, slice_get_cases, Entry, Part, Profile, in_part, is_served, Effect, IsWrong, byte_before, effect_byte, effects, touch_of, touches, GivesByte, Exporting, is_change, is_in, Report, asked_at, due_in, IsFaultless, ExplainedPasses, State, AreRising, IsRefutedBy, RefutedIsUnexplained, has, EachSteps, Fits, HasBeginning, HelpsNone, IsChange, IsChangeAt, IsHeld, IsReadAt, Leads, NoneIsLast, is_kept}
use Rattle.nbd_order.proofs.{ServiceLemmas.{in_range, is_inside, is_reached, not_served_before, served_before, served_once}, TouchLemmas.{byte_more, served_more}}

-- at x the READs get their bytes in no order of the changes: one of the states is the beginning, each change leads from
-- a state to a state, and in no state all READs are served; and no other change is a help to one of them
pub record IsRefutation (profile : Profile) (r : Report) (initial : ℕ → Option ℕ) (x : ℕ) (reads changes : List ℕ)
    (states : List State) : Type 0 where
  pub are_reads : (k : ℕ) → has reads k ≡ true → IsReadAt profile r x k
  pub are_changes : (c : ℕ) → has changes c ≡ true → IsChangeAt r x c
  pub covered : (w : ℕ) → HelpsNone profile r x reads changes w
  pub begins : HasBeginning profile r initial x reads changes states
  pub steps : EachSteps profile r x reads changes states
  pub ends : NoneIsLast reads states

-- before entry i of the order: a state in which just the changes are served that the order served at x, and at least its READs, and
-- which fits the byte at x
pub record Holds (profile : Profile) (r : Report) (initial : ℕ → Option ℕ) (x : ℕ) (reads changes : List ℕ) (states : List State) (order : List Entry) (i : ℕ) : Type 0 where
  pub place : ℕ
  pub state : State
  pub is_state : slice_get states place ≡ Some state
  pub changed : (c : ℕ) → has changes c ≡ true → has state.served.items c ≡ is_served (take i order) c x
  pub read : (k : ℕ) → has reads k ≡ true → is_served (take i order) k x ≡ true → has state.served.items k ≡ true
  pub fits : Fits profile r x reads changes state.served.items (byte_before (effects r) order initial i x)

-- no entry that names one of the READs has a wrong byte at x
abbrev pub IsRight : Report → (ℕ → Option ℕ) → (x : ℕ) → List ℕ → List Entry → Type 0
IsRight r initial x reads order = (i : ℕ) (e : Entry) → slice_get order i ≡ Some e → has reads e.request ≡ true → IsWrong (effects r) order initial i x → ⊥

or_none : (a b : Bool) → b ≡ false → a ≡ (a || b)
or_none a b q = grind arith

-- an entry that touches x serves it, and its request changes x; and the other way round
touch_parts : (p : Option Part) (o : Option Effect) (x : ℕ) (e : Effect) → touch_of p o x ≡ Some e → (o ≡ Some e) × IsTrue (touches None e x) × (in_part p x ≡ true)
touch_parts p None x e h = absurd (cc)
touch_parts p (Some d) x e h = (grind arith, grind arith, grind arith)

touch_some : (p : Option Part) (o : Option Effect) (x : ℕ) (e : Effect) → o ≡ Some e → IsTrue (touches None e x) → in_part p x ≡ true → touch_of p o x ≡ Some e
touch_some p o x e is t here = grind arith

-- what gives a byte changes none
changes_nothing : (e : Effect) (x : ℕ) → GivesByte e x → is_change e.command ≡ false
changes_nothing e x (inl q) = ap is_change q
changes_nothing e x (inr q) = ap is_change q.0

touch_none : (p : Option Part) (o : Option Effect) (x : ℕ) (e : Effect) → o ≡ Some e → GivesByte e x → touch_of p o x ≡ None
touch_none p o x e is gives = (let none = changes_nothing e x gives in grind arith)

module _ (profile : Profile) (r : Report) (initial : ℕ → Option ℕ) (x : ℕ) (reads changes : List ℕ) (states : List State) (s : IsRefutation profile r initial x reads changes states)
    (order : List Entry) (whole : IsFaultless profile r order) where
  -- x lies below the export's size
  sized : (z : Exporting) × (r.export ≡ Some z) × (x < z.size)
  sized =
      let b = s.begins in
      let u = s.ends b.0 b.1 b.2 in
      let k = (s.are_reads u.0 u.1).gave in
      (in_range r.export (asked_at u.0 r.asked) k.read x k.is_request k.inside).1

  -- a READ or a change of the refutation that was due at x is served there
  kept_is_served : (p n : ℕ) → is_kept reads changes p ≡ true → due_in profile r p x ≡ Some n → IsTrue (is_served order p x)
  kept_is_served p n kept due = elim (or_cases (has reads p) (has changes p) kept) [
    | inl h ↦ (let k = (s.are_reads p h).gave in is_reached profile r order whole p x n k.read k.is_request due k.inside)
    | inr h ↦ (let c = s.are_changes p h in
        is_reached profile r order whole p x n c.0 c.1.0 due (is_inside r.export (asked_at p r.asked) c.0 x sized.0 c.1.0 c.1.1 sized.1 sized.2))
  ]

  -- no READ of the refutation changes the byte
  not_both : (k : ℕ) → has reads k ≡ true → has changes k ≡ true → ⊥
  not_both k h g =
      let read = (s.are_reads k h).gave in
      let c = s.are_changes k g in
      let same : read.read ≡ c.0 = cc (read.is_request, c.1.0) in
      let none = changes_nothing read.read x read.is_read in
      grind (arith, c.1.1, ap (λ (f : Effect). is_change f.command) same)

  -- what of the refutation is served before entry i stands in the state
  in_state : (i p : ℕ) (h : Holds profile r initial x reads changes states order i) → is_kept reads changes p ≡ true → is_served (take i order) p x ≡ true → has h.state.served.items p ≡ true
  in_state i p h kept served = elim (or_cases (has reads p) (has changes p) kept) [
    | inl q ↦ h.read p q served
    | inr q ↦ h.changed p q ∙ served
  ]

  -- what is held in the state is not the next to be served
  not_held : (i : ℕ) (d : Entry) (h : Holds profile r initial x reads changes states order i) → slice_get order i ≡ Some d
      → IsHeld profile r x reads changes h.state.served.items d.request → ⊥
  not_held i d h at held =
      let reached = kept_is_served held.0 held.3.0 held.1 held.3.1 in
      let served = served_before profile r order whole i held.0 x d at reached held.3 in
      both_ways (has h.state.served.items held.0) held.2 (in_state i held.0 h held.1 served)

  -- the same state stands after an entry that serves no change of the refutation, and of its READs only what the state has
  stays : (i : ℕ) (d : Entry) (h : Holds profile r initial x reads changes states order i) → slice_get order i ≡ Some d
      → ((c : ℕ) → has changes c ≡ true → ((d.request == c) && in_part d.part x) ≡ false)
      → ((k : ℕ) → has reads k ≡ true → ((d.request == k) && in_part d.part x) ≡ true → has h.state.served.items k ≡ true)
      → Fits profile r x reads changes h.state.served.items (byte_before (effects r) order initial (suc i) x)
      → Holds profile r initial x reads changes states order (suc i)
  stays i d h at none known fits = record {
    place = h.place;
    state = h.state;
    is_state = h.is_state;
    changed = λ c q. h.changed c q ∙ or_none (is_served (take i order) c x) _ (none c q) ∙ sym (served_more order i d c x at);
    read = λ k q t. elim (or_cases (is_served (take i order) k x) ((d.request == k) && in_part d.part x) (sym (served_more order i d k x at) ∙ t)) [
      | inl u ↦ h.read k q u
      | inr u ↦ known k q u
    ];
    fits = fits;
  }

  -- an entry that serves x of one of the changes leads to a state
  led : (i : ℕ) (d : Entry) (h : Holds profile r initial x reads changes states order i) → slice_get order i ≡ Some d → has changes d.request ≡ true → in_part d.part x ≡ true
      → (j : ℕ) (t : State) → slice_get states j ≡ Some t → Leads profile r x reads changes h.state.served.items d.request t.served.items
      → Holds profile r initial x reads changes states order (suc i)
  led i d h at kept here j t is leads = record {
    place = j;
    state = t;
    is_state = is;
    changed = λ c q. grind (arith, leads.0.0 c q, h.changed c q, here, served_more order i d c x at);
    read = λ k q u. elim (or_cases (is_served (take i order) k x) ((d.request == k) && in_part d.part x) (sym (served_more order i d k x at) ∙ u)) [
      | inl v ↦ leads.0.1 k q (h.read k q v)
      | inr v ↦ absurd (not_both k q (subst (λ n. has changes n ≡ true) (eqb-true d.request k (and_parts (d.request == k) (in_part d.part x) v).0) kept))
    ];
    fits =
        let c = s.are_changes d.request kept in
        let touch = touch_some d.part (effects r d.request) x c.0 c.1.0 c.1.1 here in
        subst (λ b. Fits profile r x reads changes t.served.items b) (sym (byte_more (effects r) x order initial i d (Some c.0) at touch)) (leads.1 c.0 c.1.0);
  }

  after_change : (i : ℕ) (d : Entry) → Holds profile r initial x reads changes states order i → slice_get order i ≡ Some d → has changes d.request ≡ true → in_part d.part x ≡ true
      → Holds profile r initial x reads changes states order (suc i)
  after_change i d h at kept here = elim (s.steps h.place h.state h.is_state d.request kept) [
    | inl q ↦ absurd (both_ways (has h.state.served.items d.request) (h.changed d.request kept ∙ served_once profile r order whole i x d at here) q)
    | inr (inl q) ↦ absurd (not_held i d h at q)
    | inr (inr t) ↦ led i d h at kept here t.0 t.1 t.2 t.3
  ]

  -- an entry that serves x of one of the READs, which the state has
  known_read : (i : ℕ) (d : Entry) (h : Holds profile r initial x reads changes states order i) → slice_get order i ≡ Some d → has reads d.request ≡ true
      → has h.state.served.items d.request ≡ true → Holds profile r initial x reads changes states order (suc i)
  known_read i d h at kept known =
      let k = (s.are_reads d.request kept).gave in
      let touch = touch_none d.part (effects r d.request) x k.read k.is_request k.is_read in
      stays i d h at
      (λ c q. false_from_ne_true ((d.request == c) && in_part d.part x) λ v.
      not_both d.request kept (subst (λ n. has changes n ≡ true) (sym (eqb-true d.request c (and_parts (d.request == c) (in_part d.part x) v).0)) q))
      (λ c q v. subst (λ n. has h.state.served.items n ≡ true) (eqb-true d.request c (and_parts (d.request == c) (in_part d.part x) v).0) known)
      (subst (λ b. Fits profile r x reads changes h.state.served.items b) (sym (byte_more (effects r) x order initial i d None at touch)) h.fits)

  after_read : (i : ℕ) (d : Entry) → IsRight r initial x reads order → Holds profile r initial x reads changes states order i → slice_get order i ≡ Some d
      → has reads d.request ≡ true → in_part d.part x ≡ true → Holds profile r initial x reads changes states order (suc i)
  after_read i d right h at kept here = elim (h.fits d.request kept) [
    | inl q ↦ known_read i d h at kept q
    | inr (inl q) ↦ absurd (not_held i d h at q)
    | inr (inr o) ↦ absurd
        (let k = (s.are_reads d.request kept).gave in
        let lies = (in_range r.export (asked_at d.request r.asked) k.read x k.is_request k.inside).0 in
        right i d at kept (
          d,
          at,
          (
            k.read,
            k.is_request,
            (k.is_read, k.succeeded, and_from (is_in k.read.offset k.read.length x) (in_part d.part x) lies here, o k.read k.is_request),
          ),
        ))
  ]

  -- another change that is touched leaves a byte that fits the state
  fits_other : (i : ℕ) (d : Entry) (h : Holds profile r initial x reads changes states order i) → slice_get order i ≡ Some d → in_part d.part x ≡ true → (e : Effect) → IsChange r d.request x e
      → has changes d.request ≡ false → Fits profile r x reads changes h.state.served.items (effect_byte e x)
  fits_other i d h at here e change other k kept = elim (h.fits k kept) [
    | inl q ↦ inl q
    | inr (inl q) ↦ inr (inl q)
    | inr (inr q) ↦ elim (s.covered d.request e change other k kept) [
      | inl o ↦ inr (inr o)
      | inr (inl b) ↦ inl (h.read k kept
          (served_before profile r order whole i k x d at (kept_is_served k b.0 (or_left (has reads k) (has changes k) kept) b.1) b))
      | inr (inr o) ↦ inr (inl (
        o.0,
        or_right (has reads o.0) (has changes o.0) o.1,
        h.changed o.0 o.1 ∙ not_served_before profile r order whole i o.0 x d at here o.2,
        o.3,
      ))
    ]
  ]

  -- an entry that serves x of none of the refutation's requests
  after_other : (i : ℕ) (d : Entry) → Holds profile r initial x reads changes states order i → slice_get order i ≡ Some d
      → (is_kept reads changes d.request ≡ true → in_part d.part x ≡ true → ⊥) → Holds profile r initial x reads changes states order (suc i)
  after_other i d h at other =
      stays i d h at
      (λ c q. false_from_ne_true ((d.request == c) && in_part d.part x) (no c (or_right (has reads c) (has changes c) q)))
      (λ k q v. absurd (no k (or_left (has reads k) (has changes k) q) v))
      (go (touch_of d.part (effects r d.request) x) refl)
    where
      no : (p : ℕ) → is_kept reads changes p ≡ true → ((d.request == p) && in_part d.part x) ≡ true → ⊥
      no p q v =
          let parts = and_parts (d.request == p) (in_part d.part x) v in
          other (subst (λ n. is_kept reads changes n ≡ true) (sym (eqb-true d.request p parts.0)) q) parts.1

      go : (o : Option Effect) → touch_of d.part (effects r d.request) x ≡ o
          → Fits profile r x reads changes h.state.served.items (byte_before (effects r) order initial (suc i) x)
      go None touch = subst (λ b. Fits profile r x reads changes h.state.served.items b) (sym (byte_more (effects r) x order initial i d None at touch)) h.fits
      go (Some e) touch =
          let t = touch_parts d.part (effects r d.request) x e touch in
          let unkept : has changes d.request ≡ false =
          false_from_ne_true (has changes d.request) (λ q. other (or_right (has reads d.request) (has changes d.request) q) t.2) in
          subst (λ b. Fits profile r x reads changes h.state.served.items b) (sym (byte_more (effects r) x order initial i d (Some e) at touch))
          (fits_other i d h at t.2 e (t.0, t.1) unkept)

  step : (i : ℕ) (d : Entry) → IsRight r initial x reads order → Holds profile r initial x reads changes states order i → slice_get order i ≡ Some d
      → Holds profile r initial x reads changes states order (suc i)
  step i d right h at = elim (cases_Bool (in_part d.part x)) [
    | inl here ↦ elim (cases_Bool (has changes d.request)) [
      | inl kept ↦ after_change i d h at kept here
      | inr unchanged ↦ elim (cases_Bool (has reads d.request)) [
        | inl kept ↦ after_read i d right h at kept here
        | inr unread ↦ after_other i d h at
            (λ q p. both_ways (is_kept reads changes d.request) (or_from (has reads d.request) (has changes d.request) unread unchanged) q)
      ]
    ]
    | inr away ↦ after_other i d h at (λ q p. both_ways (in_part d.part x) away p)
  ]

  at_each : IsRight r initial x reads order → (i : ℕ) → i ≤ length order → Holds profile r initial x reads changes states order i
  at_each right zero l =
      let b = s.begins in record {
        place = b.0;
        state = b.1;
        is_state = b.2;
        changed = b.3.0;
        read = λ k q t. absurd (cc);
        fits = b.3.1;
      }
  at_each right (suc i) l = elim (slice_get_cases order i).1 [
    | inl e ↦ step i e.0 right (at_each right i (omega arith)) e.2
    | inr e ↦ absurd (let p : length order ≤ i = e.0 in omega arith)
  ]

  contradiction : IsRight r initial x reads order → ⊥
  contradiction right =
      let h = at_each right (length order) (omega arith) in
      let u = s.ends h.place h.state h.is_state in
      let k = s.are_reads u.0 u.1 in
      let served : IsTrue (is_served order u.0 x) = kept_is_served u.0 k.is_due.0 (or_left (has reads u.0) (has changes u.0) u.1) k.is_due.1 in
      both_ways (has h.state.served.items u.0) u.2 (h.read u.0 u.1 (ap (λ es. is_served es u.0 x) (take-length order) ∙ served))

pub refuted : (profile : Profile) (r : Report) (initial : ℕ → Option ℕ) (x : ℕ) (reads changes : List ℕ) (states : List State)
    → AreRising reads → IsRefutation profile r initial x reads changes states → IsRefutedBy profile r initial x reads
refuted profile r initial x reads changes states rise s = record {
  are_reads = λ k h. (s.are_reads k h).gave;
  rise = rise;
  none_is_right = λ order whole right. contradiction profile r initial x reads changes states s order whole right;
}

pub refuted_is_unexplained : ExplainedPasses → RefutedIsUnexplained
refuted_is_unexplained only profile items initial x reads is_run refuted order explained =
    let passes = only profile items order initial is_run explained in
    refuted.none_is_right order passes.faultless (λ i e at named. passes.reads i x)
