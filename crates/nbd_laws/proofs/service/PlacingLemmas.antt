-- Where the order has no fault, a run with the same pairs serves in that order: each entry as soon as its request, and those of the
-- entries before it, have completed.
use Rattle.nbd_laws.proofs.Common.{or_cases, ◌≡◌, ℕ, zero, suc, ◌+◌, ◌<◌, ◌≤◌, ◌⊎◌, ◌||◌, ◌&&◌, List, [], ◌∷◌, ◌++◌, length, refl, sym, ◌∙◌, ap, subst, inl, inr, Option, Some, None, Bool, true, false, IsTrue, append_assoc, append-nil, arith, eq-eqb, nat_le, nat_lt, if◌then◌else◌, le_refl, leb-true, leb-false, le-leb, lt-ltb, Entry, Part, IsServedAt, MayServe, Names, in_part, is_served, Item, Byte, Starts, Completes, Serves, pairs, service_order, is_in, Core, IsServedFor, Obeys, complete, inside_at, makes_due, Both}
use Rattle.nbd_laws.proofs.{service.{DueLemmas.{known_if, due_from}, EntryLemmas.{AreFine, AreFine-as, AreFine-left, AreFine-right, IsInTime, IsInTime-right, Names-append_cases, names_served, served-append, served_at-left}, InsideLemmas.{IsSettled, core_end, entries_grow, inside_end, settled_complete}}, reading.ReaderLemmas.{Open, Walk, ended, serving, opening, middle, final, loose}}
use Rattle.nbd_laws.proofs.runs.TraceLemmas.{due_within}

-- of an order the entries at the front that name requests up to n, and those from the first other one on
abbrev pub ready : ℕ → List Entry → List Entry
ready n [] = []
ready n (e ∷ order) = if nat_le e.request n then e ∷ ready n order else []

abbrev pub rest : ℕ → List Entry → List Entry
rest n [] = []
rest n (e ∷ order) = if nat_le e.request n then rest n order else e ∷ order

ready_and_rest : (n : ℕ) (order : List Entry) → order ≡ ready n order ++ rest n order
ready_and_rest n [] = refl
ready_and_rest n (e ∷ order) = grind (arith, nat_le, ready_and_rest n order)

ready_within : (n : ℕ) (order : List Entry) (k : ℕ) → Names (ready n order) k → k ≤ n
ready_within n [] k h = absurd h
ready_within n (e ∷ order) k h = grind (arith, nat_le, leb-true, ready_within n order k)

-- the first entry waits for a request that has not completed
abbrev pub Waits : ℕ → List Entry → Type 0
Waits n [] = Unit {0}
Waits n (e ∷ order) = n < e.request

rest_waits : (n : ℕ) (order : List Entry) → Waits n (rest n order)
rest_waits n [] = tt
rest_waits n (e ∷ order) = grind (arith, nat_le, leb-false, rest_waits n order)

abbrev pub serve_all : List Entry → List Item → List Item
serve_all [] items = items
serve_all (e ∷ es) items = Serves e ∷ serve_all es items

-- the run with this order's service
abbrev pub placed : Core → List Entry → List Item → List Item
placed core order [] = serve_all order []
placed core order (Byte s b ∷ items) = Byte s b ∷ placed core order items
placed core order (Starts s m ∷ items) = Starts s m ∷ placed core order items
placed core order (Completes s m ∷ items) =
    Completes s m ∷ serve_all (ready (length (complete core m).entries) order) (placed (complete core m) (rest (length (complete core m).entries) order) items)
placed core order (Serves e ∷ items) = placed core order items

served_serve_all : (ks : List Entry) (items : List Item) → service_order (serve_all ks items) ≡ ks ++ service_order items
served_serve_all [] items = refl
served_serve_all (k ∷ ks) items = ap (λ l. k ∷ l) (served_serve_all ks items)

pairs_serve_all : (ks : List Entry) (items : List Item) → pairs (serve_all ks items) ≡ pairs items
pairs_serve_all [] items = refl
pairs_serve_all (k ∷ ks) items = pairs_serve_all ks items

walk_serve_all : {P : Type 0} (ks : List Entry) {o : Both Open} {items : List Item} → Walk P o items → Walk P o (serve_all ks items)
walk_serve_all [] w = w
walk_serve_all (k ∷ ks) w = serving k (walk_serve_all ks w)

pub served_placed : (core : Core) (order : List Entry) (items : List Item) → service_order (placed core order items) ≡ order
served_placed core order [] = served_serve_all order [] ∙ append-nil order
served_placed core order (Completes s m ∷ items) =
    let n : ℕ = length (complete core m).entries in
    served_serve_all (ready n order) _ ∙ ap (λ l. ready n order ++ l) (served_placed (complete core m) (rest n order) items) ∙ sym (ready_and_rest n order)
served_placed core order (item ∷ items) = served_placed core order items

pub pairs_placed : (core : Core) (order : List Entry) (items : List Item) → pairs (placed core order items) ≡ pairs items
pairs_placed core order [] = pairs_serve_all order []
pairs_placed core order (Byte s b ∷ items) = ap (λ l. record { from = s; byte = b } ∷ l) (pairs_placed core order items)
pairs_placed core order (Completes s m ∷ items) =
    let n : ℕ = length (complete core m).entries in
    pairs_serve_all (ready n order) _ ∙ pairs_placed (complete core m) (rest n order) items
pairs_placed core order (item ∷ items) = pairs_placed core order items

pub walk_placed : {P : Type 0} {o : Both Open} {items : List Item} → Walk P o items → (core : Core) (order : List Entry) → Walk P o (placed core order items)
walk_placed (ended c s) core order = walk_serve_all order (ended c s)
walk_placed (serving k w) core order = walk_placed w core order
walk_placed (opening s m b left e f g w) core order = opening s m b left e f g (walk_placed w core order)
walk_placed (middle s m b left e f w) core order = middle s m b left e f (walk_placed w core order)
walk_placed (final s m b e w) core order =
    final s m b e (walk_serve_all (ready (length (complete core m).entries) order) (walk_placed w (complete core m) (rest (length (complete core m).entries) order)))
walk_placed (loose s b p e w) core order = loose s b p e (walk_placed w core order)

obeys_serve_all : (core : Core) (js ks : List Entry) (items : List Item) → AreFine (length core.entries) (inside_at core) js ks → Obeys (record { core = core; served = js ++ ks }) items → Obeys (record { core = core; served = js }) (serve_all ks items)
obeys_serve_all core js [] items fine ob = subst (λ l. Obeys (record { core = core; served = l }) items) (append-nil js) ob
obeys_serve_all core js (e ∷ ks) items fine ob = grind (arith, append_assoc, obeys_serve_all core (js ++ e ∷ []) ks items fine.1 (subst (λ l. Obeys (record { core = core; served = l }) items) (sym (append_assoc js (e ∷ []) ks)) ob))

-- what waits serves nothing that is due
waiting_unserved : (κ : ℕ → ℕ → Option ℕ) (n : ℕ) (order : List Entry) (k x m : ℕ) → Waits n order → IsInTime κ order → is_served order k x ≡ true → κ k x ≡ Some m → m ≤ n → ⊥
waiting_unserved κ n order k x m w h s q l = grind arith

-- entries that name a request serve each offset of it, or one that lies inside
record IsServedSomewhere (inside : ℕ → ℕ → Bool) (order : List Entry) (k : ℕ) : Type 0 where
  at : ℕ
  here : is_served order k at ≡ true
  where_ : ((x : ℕ) → is_served order k x ≡ true) ⊎ (inside k at ≡ true)

entry_serves : (e : Entry) (order : List Entry) (k x : ℕ) → e.request ≡ k → in_part e.part x ≡ true → is_served (e ∷ order) k x ≡ true
entry_serves e order k x q h = ap (λ b. (b && in_part e.part x) || is_served order k x) (eq-eqb e.request k q) ∙ ap (λ b. b || is_served order k x) h

behind : (inside : ℕ → ℕ → Bool) (e : Entry) (order : List Entry) (k : ℕ) → IsServedSomewhere inside order k → IsServedSomewhere inside (e ∷ order) k
behind inside e order k h = grind arith

named_somewhere : (count : ℕ) (inside : ℕ → ℕ → Bool) (before order : List Entry) (k : ℕ) → AreFine count inside before order → Names order k → IsServedSomewhere inside order k
named_somewhere count inside before [] k f n = absurd n
named_somewhere count inside before (e ∷ order) k f n = elim n [
  | inl q ↦ first e.part refl q
  | inr m ↦ behind inside e order k (named_somewhere count inside (before ++ e ∷ []) order k f.1 m)
]
  where
    first : (p : Option Part) → e.part ≡ p → e.request ≡ k → IsServedSomewhere inside (e ∷ order) k
    first None p q = record { at = 0; here = entry_serves e order k 0 q (ap (λ o. in_part o 0) p); where_ = inl (λ x. entry_serves e order k x q (ap (λ o. in_part o x) p)) }
    first (Some part) p q = at part.length refl
      where
        may : MayServe (inside e.request) before (record { request = e.request; part = Some part })
        may = subst (λ o. MayServe (inside e.request) before (record { request = e.request; part = o })) p f.0.2

        at : (n : ℕ) → part.length ≡ n → IsServedSomewhere inside (e ∷ order) k
        at zero empty = absurd (may.1 (inl empty))
        at (suc n) long =
            let here : IsTrue (is_in part.offset part.length part.offset) = ap (λ b. b && nat_lt part.offset (part.offset + part.length)) (le-leb part.offset part.offset (le_refl part.offset)) ∙ lt-ltb part.offset (part.offset + part.length) (omega arith) in
            by (inside e.request part.offset) refl here
          where
            by : (b : Bool) → inside e.request part.offset ≡ b → IsTrue (is_in part.offset part.length part.offset) → IsServedSomewhere inside (e ∷ order) k
            by true within here = record {
              at = part.offset;
              here = entry_serves e order k part.offset q (ap (λ o. in_part o part.offset) p ∙ here);
              where_ = inr (ap (λ j. inside j part.offset) (sym q) ∙ within);
            }
            by false outside here = absurd (may.1 (inr (inl (part.offset, here, outside))))

-- a request is due no later at an offset inside it than as a whole
abbrev pub IsDeep : (κ : ℕ → ℕ → Option ℕ) → (inside : ℕ → ℕ → Bool) → Type 0
IsDeep κ inside = (k x y n : ℕ) → inside k x ≡ false → inside k y ≡ true → κ k x ≡ Some n → (m : ℕ) × (κ k y ≡ Some m) × (m ≤ n)

module _ (κ : ℕ → ℕ → Option ℕ) (last : Core) (deep : IsDeep κ (inside_at last)) where
  -- what is left of the order fits what is left of the run
  pub record Fits (core : Core) (js order : List Entry) (items : List Item) : Type 0 where
    pub fine : AreFine (length last.entries) (inside_at last) js order
    pub in_time : IsInTime κ order
    pub waits : Waits (length core.entries) order
    pub due : (k x : ℕ) → IsServedAt (inside_at last k) js k x ⊎ (due_from core items k x ≡ κ k x)
    pub served : (k x n : ℕ) → 0 < k → k ≤ length last.entries → κ k x ≡ Some n → IsServedAt (inside_at last k) (js ++ order) k x
    pub settled : IsSettled core
    pub end : core_end core items ≡ last

  -- what has completed has inside it what it has at the end
  same_inside : (core : Core) (js₀ js order : List Entry) (items : List Item) → Obeys (record { core = core; served = js₀ }) items → Fits core js order items →
      (k : ℕ) → 0 < k → k ≤ length core.entries → inside_at core k ≡ inside_at last k
  same_inside core js₀ js order items ob f k p l = inside_end items core js₀ f.settled ob k p l ∙ ap (λ c. inside_at c k) f.end

  -- what is due now is served by the entries so far
  served_so_far : (js order : List Entry) (n k x : ℕ) → AreFine (length last.entries) (inside_at last) js order → IsInTime κ order → Waits n order → κ k x ≡ Some n → IsServedAt (inside_at last k) (js ++ order) k x → IsServedAt (inside_at last k) js k x
  served_so_far js order n k x fine in_time waits q h = record { named = named (inside_at last k x) refl; covered = covered }
    where
      not_later : is_served order k x ≡ true → ⊥
      not_later s = waiting_unserved κ n order k x n waits in_time s q (le_refl n)

      covered : IsTrue (inside_at last k x) → IsTrue (is_served js k x)
      covered i = elim (or_cases (is_served js k x) (is_served order k x) (sym (served-append js order k x) ∙ h.covered i)) [ inl a ↦ a | inr b ↦ absurd (not_later b) ]

      named : (b : Bool) → inside_at last k x ≡ b → Names js k
      named true i = names_served js k x (covered i)
      named false i = elim (Names-append_cases js order k h.named) [
        | inl a ↦ a
        | inr b ↦ (let s : IsServedSomewhere (inside_at last) order k = named_somewhere (length last.entries) (inside_at last) js order k fine b in
            elim s.where_ [
              | inl all ↦ absurd (not_later (all x))
              | inr w ↦ (let d : (m : ℕ) × (κ k s.at ≡ Some m) × (m ≤ n) = deep k x s.at n i w q in absurd (waiting_unserved κ n order k s.at d.0 waits in_time s.here d.1 d.2))
            ])
      ]

  -- an item that may make something due
  module _ (core next : Core) (item : Item) (items : List Item) (js₀ js order : List Entry) (ob : Obeys (record { core = core; served = js₀ }) (item ∷ items)) (f : Fits core js order (item ∷ items))
      (here : (k x : ℕ) → due_from core (item ∷ items) k x ≡ known_if (makes_due core item k x) core (due_from next items k x)) where
    served_now : (k x : ℕ) → IsTrue (makes_due core item k x) → IsServedAt (inside_at last k) js k x
    served_now k x d = elim (f.due k x) [
      | inl a ↦ a
      | inr q ↦ (let w : (0 < k) × (k ≤ length core.entries) = due_within core item k x d in
          let grow : length core.entries ≤ length (core_end core (item ∷ items)).entries = entries_grow core (item ∷ items) in
          let end : length (core_end core (item ∷ items)).entries ≡ length last.entries = ap (λ (c : Core). length c.entries) f.end in
          let known : κ k x ≡ Some (length core.entries) = sym q ∙ here k x ∙ ap (λ b. known_if b core (due_from next items k x)) d in
          served_so_far js order (length core.entries) k x f.fine f.in_time f.waits known (f.served k x (length core.entries) w.0 (omega (arith, w.1, grow, end)) known))
    ]

    for_it : IsServedFor (record { core = core; served = js }) item
    for_it k x d =
        let w : (0 < k) × (k ≤ length core.entries) = due_within core item k x d in
        subst (λ within. IsServedAt within js k x) (sym (same_inside core js₀ js order (item ∷ items) ob f k w.0 w.1)) (served_now k x d)

    due_next : (k x : ℕ) → IsServedAt (inside_at last k) js k x ⊎ (due_from next items k x ≡ κ k x)
    due_next k x = grind (arith, inside_at, served_now)

  -- the placing obeys the rules
  pub obeys_placed : (items : List Item) (core : Core) (js₀ js order : List Entry) → Obeys (record { core = core; served = js₀ }) items → Fits core js order items → Obeys (record { core = core; served = js }) (placed core order items)
  obeys_placed [] core js₀ js order ob f = grind (arith, obeys_serve_all)
  obeys_placed (Byte s b ∷ items) core js₀ js order ob f = grind (arith, obeys_placed items core js₀ js order ob.1 (record { fine = f.fine; in_time = f.in_time; waits = f.waits; due = f.due; served = f.served; settled = f.settled; end = f.end }))
  obeys_placed (Starts s m ∷ items) core js₀ js order ob f = (
    (ob.0.0, ob.0.1, ob.0.2, for_it core core (Starts s m) items js₀ js order ob f (λ k x. refl)),
    obeys_placed items core js₀ js order ob.1 (record {
      fine = f.fine;
      in_time = f.in_time;
      waits = f.waits;
      due = due_next core core (Starts s m) items js₀ js order ob f (λ k x. refl);
      served = f.served;
      settled = f.settled;
      end = f.end;
    }),
  )
  obeys_placed (Completes s m ∷ items) core js₀ js order ob f =
      let next : Core = complete core m in
      let n : ℕ = length next.entries in
      let ks : List Entry = ready n order in
      let more : List Entry = rest n order in
      let split : order ≡ ks ++ more = ready_and_rest n order in
      let fine : AreFine (length last.entries) (inside_at last) js (ks ++ more) = subst (AreFine (length last.entries) (inside_at last) js) split f.fine in
      let left : js ++ order ≡ (js ++ ks) ++ more = ap (λ l. js ++ l) split ∙ sym (append_assoc js ks more) in
      let settled : IsSettled next = settled_complete core m ob.0.0 f.settled in
      let due = due_next core next (Completes s m) items js₀ js order ob f (λ k x. refl) in
      let g : Fits next (js ++ ks) more items = record {
        fine = AreFine-right (length last.entries) (inside_at last) js ks more fine;
        in_time = IsInTime-right κ ks more (subst (IsInTime κ) split f.in_time);
        waits = rest_waits n order;
        due = λ k x. elim (due k x) [ inl a ↦ inl (served_at-left (inside_at last k) js ks k x a) | inr q ↦ inr q ];
        served = λ k x i p l q. subst (λ es. IsServedAt (inside_at last k) es k x) left (f.served k x i p l q);
        settled = settled;
        end = f.end;
      } in (
        (ob.0.0, for_it core next (Completes s m) items js₀ js order ob f (λ k x. refl)),
        obeys_serve_all next js ks (placed next more items)
            (AreFine-as (length last.entries) n (inside_at last) (inside_at next) js ks
            (λ k h p l. (let w : k ≤ n = ready_within n order k h in (w, sym (same_inside next js₀ (js ++ ks) more items ob.1 g k p w))))
            (AreFine-left (length last.entries) (inside_at last) js ks more fine))
            (obeys_placed items next js₀ (js ++ ks) more ob.1 g),
      )
  obeys_placed (Serves e ∷ items) core js₀ js order ob f =
      obeys_placed items core _ js order ob.1 (record { fine = f.fine; in_time = f.in_time; waits = f.waits; due = f.due; served = f.served; settled = f.settled; end = f.end })
