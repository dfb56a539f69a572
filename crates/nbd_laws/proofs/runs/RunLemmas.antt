-- The laws over runs.
use Rattle.nbd_laws.proofs.Common.{◌≡◌, ℕ, List, [], ◌∷◌, ◌++◌, length, refl, sym, subst, inr, Option, Ok, Err, arith, Profile, Entry, Side, Client, Server, Item, Completes, Serves, pairs, completed_messages, service_order, Pair, ArePairs, Core, start, start_of, IsRunOf, IsRunBut, Obeys, complete, ends_at, inside_at, operations_of, WireFault, fresh_of, Both, get, IsFilled, Rest, Reader, reads, at_start, within}
use Rattle.nbd_laws.proofs.{service.{DueLemmas.due_from, EntryLemmas.HasNoFault, InsideLemmas.core_end, PlacingLemmas.{IsDeep, placed, walk_placed, served_placed, pairs_placed, Fits, obeys_placed}}, reading.{ReaderLemmas.{AreHeld, none_held, Walk, Open, Idle, IsSound, IsExact, led}, MarkLemmas.{marks, IsRead}}}
use Rattle.nbd_laws.proofs.runs.{TraceLemmas.{trace, IsTrace, IsCanonical, IsStray, Guess, not_empty}, ProfileLemmas.at_base, BlockLemmas.{walk_is_marked, marked_is_walk, Idles}}

pub core_end-ends_at : (core : Core) (js : List Entry) (items : List Item) → core_end core items ≡ (ends_at (record { core = core; served = js }) items).core
core_end-ends_at core js [] = refl
core_end-ends_at core js (Completes s m ∷ items) = core_end-ends_at (complete core m) js items
core_end-ends_at core js (Serves k ∷ items) = core_end-ends_at core _ items
core_end-ends_at core js (item ∷ items) = core_end-ends_at core js items

-- a walk without stray bytes from nothing that obeys the rules is a run
pub run_of : {profile : Profile} {P : Type 0} {items : List Item} → (P → ⊥) → Walk P Idles items → Obeys (start_of profile) items → IsRunOf profile items
run_of {P} {items} no_stray w ob = grind (arith, walk_is_marked)

pub walk_of : {profile : Profile} {items : List Item} → IsRunOf profile items → Walk ⊥ Idles items
walk_of {items} run = marked_is_walk items [] [] (λ f. f) (λ f. f) run.marked

pub latest : {profile : Profile} (items : List Item) (order : List Entry) → IsRunOf profile items → (κ : ℕ → ℕ → Option ℕ) → ((k x : ℕ) → due_from (start_of profile).core items k x ≡ κ k x) → IsDeep κ (inside_at (ends_at start items).core) →
    HasNoFault (length (operations_of items)) κ (inside_at (ends_at start items).core) order → (items' : List Item) × IsRunOf profile items' × (pairs items' ≡ pairs items) × (service_order items' ≡ order)
latest {profile} items order run κ due deep_at_base at_base_fit =
    let last : Core = (ends_at (start_of profile) items).core in
    let fit : HasNoFault (length last.entries) κ (inside_at last) order =
    subst (λ (c : Core). HasNoFault (length c.entries) κ (inside_at c) order) (sym (at_base profile items)) at_base_fit in
    let deep : IsDeep κ (inside_at last) = subst (λ (c : Core). IsDeep κ (inside_at c)) (sym (at_base profile items)) deep_at_base in
    let fits : Fits κ last deep (start_of profile).core [] order items = record {
      fine = fit.fine;
      in_time = fit.in_time;
      waits = grind arith;
      due = λ k x. inr (due k x);
      served = fit.served;
      settled = λ l. absurd (omega arith);
      end = core_end-ends_at (start_of profile).core [] items;
    } in (
      placed (start_of profile).core order items,
      run_of (λ x. x) (walk_placed (walk_of run) (start_of profile).core order) (obeys_placed κ last deep items (start_of profile).core [] [] order run.obeys fits),
      pairs_placed (start_of profile).core order items,
      served_placed (start_of profile).core order items,
    )

pub fresh_held : {profile : Profile} → AreHeld (fresh_of profile)
fresh_held = elim [ Client ↦ none_held at_start refl | Server ↦ none_held at_start refl ]

-- the run's messages within a list that its pairs begin with are those that the reader reads
pub marks_law : {profile : Profile} → IsExact → (items : List Item) → IsRunOf profile items → (ps more : List Pair) → ArePairs ps → pairs items ≡ ps ++ more → IsRead (fresh_of profile) ps (within (length ps) items)
marks_law {profile} exact items run ps more lt e =
    marks exact (walk_of run) (fresh_of profile) [] run.obeys (elim [ Client ↦ refl | Server ↦ refl ]) (fresh_held) ps more lt e

pub idle_at : (profile : Profile) (s : Side) (end : Rest) (o : Open) → Guess (record { bytes = []; since = (start_of profile).core }) end s o → o ≡ Idle
idle_at profile s end o g = grind arith

pub both_idle : (o : Both Open) → get o Client ≡ Idle → get o Server ≡ Idle → o ≡ Idles
both_idle o c s = λ i. record { client = c i; server = s i }

pub fresh_canonical : {profile : Profile} → IsCanonical (start_of profile)
fresh_canonical = record { all = λ k p h. absurd (omega arith); only = λ k h. absurd h }

-- what the reader reads to its end is a run with exactly these pairs, which leads it there
pub run_law : {profile : Profile} → IsSound → (ps : List Pair) (end : Reader) → ArePairs ps → reads (fresh_of profile) ps ≡ Ok end → ((s : Side) → (get end.rests s).bytes ≡ []) →
    (items : List Item) × IsRunOf profile items × (pairs items ≡ ps) × (led (fresh_of profile) items ≡ end)
run_law {profile} sound ps end lt e none =
    let t : IsTrace (fresh_of profile) end (start_of profile) ps = trace sound ps (fresh_of profile) end [] lt (fresh_held) fresh_canonical e in
    let idle : t.open_ ≡ Idles = both_idle t.open_ (idle_at profile Client (get end.rests Client) (get t.open_ Client) (t.guess Client)) (idle_at profile Server (get end.rests Server) (get t.open_ Server) (t.guess Server)) in
    (t.items, run_of (λ p. not_empty (get end.rests p.0).bytes p.1 (none p.0)) (subst (λ o. Walk (IsStray end) o t.items) idle t.walk) t.obeys, t.has_pairs, t.leads)

-- what the reader reads without a fault is a run with exactly these pairs and messages, but for loose bytes of a side
-- that is within a message
pub run_but_law : {profile : Profile} → IsSound → (ps : List Pair) (end : Reader) → ArePairs ps → reads (fresh_of profile) ps ≡ Ok end →
    (items : List Item) × (client : List ℕ) × (server : List ℕ) × IsRunBut profile items client server × (pairs items ≡ ps) × (completed_messages items ≡ end.messages)
    × (IsFilled client → IsStray end) × (IsFilled server → IsStray end)
run_but_law {profile} sound ps end lt e =
    let t : IsTrace (fresh_of profile) end (start_of profile) ps = trace sound ps (fresh_of profile) end [] lt (fresh_held) fresh_canonical e in
    let idle : t.open_ ≡ Idles = both_idle t.open_ (idle_at profile Client (get end.rests Client) (get t.open_ Client) (t.guess Client)) (idle_at profile Server (get end.rests Server) (get t.open_ Server) (t.guess Server)) in
    grind (arith, t, idle, trace, fresh_held, fresh_canonical, both_idle, idle_at, walk_is_marked)

-- no run's pairs begin with a list that the reader refuses
pub no_run : {profile : Profile} → IsExact → (items : List Item) → IsRunOf profile items → (ps more : List Pair) → ArePairs ps → pairs items ≡ ps ++ more → (fault : WireFault) → reads (fresh_of profile) ps ≡ Err fault → ⊥
no_run {profile} exact items run ps more lt e fault refused = grind (arith, marks_law exact items run ps more lt e)
