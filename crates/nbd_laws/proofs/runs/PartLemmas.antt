-- A run in two parts.
use Rattle.nbd_laws.proofs.Common.{◌≡◌, ℕ, ◌+◌, List, [], ◌∷◌, ◌++◌, length, refl, sym, ◌∙◌, ap, subst, append_assoc, append-nil, arith, Side, Client, Server, Message, enc, Item, Byte, Starts, Completes, Serves, service_order, Obeys, after, ends_at, State, start_of, Both, get, put, CompletionsStandAfterBytes, PrefixesAreRuns, StartsStandBeforeBytes, started_messages}
use Rattle.nbd_laws.proofs.{reading.ReaderLemmas.{get-put_same, put_both, Open, Idle, Busy, Loose, IsNotBusy, Walk, ended, serving, opening, middle, final, loose}, runs.{BlockLemmas.Idles, RunLemmas.{run_of, walk_of}}}
use Rattle.nbd_laws.specs.Prefixes as prefixes

pub obeys_prefix : (state : State) (prefix back : List Item) → Obeys state (prefix ++ back) → Obeys state prefix
obeys_prefix state [] back ob = tt
obeys_prefix state (item ∷ prefix) back ob = (ob.0, obeys_prefix (after state item) prefix back ob.1)

pub obeys_back : (state : State) (prefix back : List Item) → Obeys state (prefix ++ back) → Obeys (ends_at state prefix) back
obeys_back state [] back ob = ob
obeys_back state (item ∷ prefix) back ob = obeys_back (after state item) prefix back ob.1

-- what was served stands in the state
pub served_in : (state : State) (items : List Item) → (ends_at state items).served ≡ state.served ++ service_order items
served_in state [] = sym (append-nil state.served)
served_in state (Completes s m ∷ items) = served_in (after state (Completes s m)) items
served_in state (Serves k ∷ items) = served_in (after state (Serves k)) items ∙ append_assoc state.served (k ∷ []) (service_order items)
served_in state (item ∷ items) = served_in state items

-- how many messages are open
abbrev opened : Open → ℕ
opened Idle = 0
opened (Busy m left) = 1
opened Loose = 0

-- as many messages end as are open or start
abbrev IsEven : Both Open → List Item → Type 0
IsEven o items = (s : Side) → opened (get o s) + length (started_messages s items) ≡ length (prefixes.ended_messages s items)

even_none : {P : Type 0} (o : Both Open) → IsEven o [] → Walk P o []
even_none o h = ended (idle o.client (h Client)) (idle o.server (h Server))
  where
    idle : (x : Open) → opened x + 0 ≡ 0 → IsNotBusy x
    idle x e = grind arith

even_middle : (o : Both Open) (s : Side) (m : Message) (b : ℕ) (left : List ℕ) (prefix : List Item) → get o s ≡ Busy m (b ∷ left) → IsEven o (Byte s b ∷ prefix) → IsEven (put o s (Busy m left)) prefix
even_middle o s m b left prefix i h = grind (arith, put_both)

even_final : (o : Both Open) (s : Side) (m : Message) (b : ℕ) (prefix : List Item) → get o s ≡ Busy m (b ∷ []) → IsEven o (Byte s b ∷ Completes s m ∷ prefix) → IsEven (put o s Idle) prefix
even_final o s m b prefix i h = grind (arith, put_both)

-- a walk, up to a moment at which no message is open
cut_walk : {o : Both Open} {items : List Item} → Walk ⊥ o items → (prefix back : List Item) → items ≡ prefix ++ back → IsEven o prefix → Walk ⊥ o prefix
cut_walk {o} w [] back e h = even_none o h
cut_walk (ended c d) (x ∷ prefix) back e h = absurd (cc)
cut_walk {o} (serving k {items = items} w) (x ∷ prefix) back e h =
    let q : Serves k ≡ x = cc in
    let r : items ≡ prefix ++ back = cc in
    subst (λ y. Walk ⊥ o (y ∷ prefix)) q (serving k (cut_walk w prefix back r (subst (λ y. IsEven o (y ∷ prefix)) (sym q) h)))
cut_walk {o} (opening s m b left i f g w) (x ∷ []) back e h = grind (arith)
cut_walk {o} (opening s m b left {items = items} i f g w) (x ∷ y ∷ prefix) back e h =
    let q : Starts s m ≡ x = cc in
    let p : Byte s b ≡ y = cc in
    let r : items ≡ prefix ++ back = cc in
    let h' : IsEven o (Starts s m ∷ Byte s b ∷ prefix) = subst (λ z. IsEven o (z ∷ Byte s b ∷ prefix)) (sym q) (subst (λ z. IsEven o (x ∷ z ∷ prefix)) (sym p) h) in
    subst (λ z. Walk ⊥ o (x ∷ z ∷ prefix)) p (subst (λ z. Walk ⊥ o (z ∷ Byte s b ∷ prefix)) q
    (opening s m b left i f g (cut_walk w prefix back r ((grind (arith, put_both))))))
cut_walk {o} (middle s m b left {items = items} i f w) (x ∷ prefix) back e h =
    let q : Byte s b ≡ x = cc in
    let r : items ≡ prefix ++ back = cc in
    subst (λ y. Walk ⊥ o (y ∷ prefix)) q (middle s m b left i f (cut_walk w prefix back r (even_middle o s m b left prefix i (subst (λ y. IsEven o (y ∷ prefix)) (sym q) h))))
cut_walk {o} (final s m b i w) (x ∷ []) back e h = grind (arith, ap opened i)
cut_walk {o} (final s m b {items = items} i w) (x ∷ y ∷ prefix) back e h =
    let q : Byte s b ≡ x = cc in
    let p : Completes s m ≡ y = cc in
    let r : items ≡ prefix ++ back = cc in
    let h' : IsEven o (Byte s b ∷ Completes s m ∷ prefix) = subst (λ z. IsEven o (z ∷ Completes s m ∷ prefix)) (sym q) (subst (λ z. IsEven o (x ∷ z ∷ prefix)) (sym p) h) in
    subst (λ z. Walk ⊥ o (x ∷ z ∷ prefix)) p (subst (λ z. Walk ⊥ o (z ∷ Completes s m ∷ prefix)) q
    (final s m b i (cut_walk w prefix back r (even_final o s m b prefix i h'))))
cut_walk (loose s b p i w) (x ∷ prefix) back e h = absurd p

pub prefixes_are_runs : PrefixesAreRuns
prefixes_are_runs profile prefix back run none =
    run_of (λ p. p) (cut_walk (walk_of run) prefix back refl even) (obeys_prefix (start_of profile) prefix back run.obeys)
  where
    even : IsEven Idles prefix
    even h = grind arith

-- what stands after the start of a message, and the walk that goes on there
pub record StandsAt (back : List Item) (s : Side) (m : Message) : Type 0 where
  pub first : ℕ
  pub left : List ℕ
  pub rest : List Item
  pub behind_start : back ≡ Byte s first ∷ rest
  pub encodes : enc m ≡ first ∷ left
  pub open_ : Both Open
  pub walk : Walk ⊥ open_ rest
  pub busy : get open_ s ≡ Busy m left

pub start_at : {o : Both Open} {items : List Item} → Walk ⊥ o items → (prefix back : List Item) (s : Side) (m : Message) → items ≡ prefix ++ Starts s m ∷ back → StandsAt back s m
start_at (ended c d) [] back s m e = absurd (cc)
start_at (serving k w) [] back s m e = absurd (cc)
start_at (serving k w) (x ∷ prefix) back s m e = start_at w prefix back s m (cc)
start_at {o} (opening t n b left {items = items} i f g w) [] back s m e =
    let q : t ≡ s = cc in
    let p : n ≡ m = cc in
    let r : Byte t b ∷ items ≡ back = cc in
    record {
      first = b;
      left = left;
      rest = items;
      behind_start = sym r ∙ ap (λ u. Byte u b ∷ items) q;
      encodes = ap enc (sym p) ∙ f;
      open_ = put o t (Busy n left);
      walk = w;
      busy = subst (λ u. get (put o t (Busy n left)) u ≡ Busy n left) q (get-put_same o t (Busy n left)) ∙ ap (λ z. Busy z left) p;
    }
start_at (opening t n b left i f g w) (x ∷ []) back s m e = absurd (cc)
start_at (opening t n b left i f g w) (x ∷ y ∷ prefix) back s m e = start_at w prefix back s m (cc)
start_at (middle t n b left i f w) [] back s m e = absurd (cc)
start_at (middle t n b left i f w) (x ∷ prefix) back s m e = start_at w prefix back s m (cc)
start_at (final t n b i w) [] back s m e = absurd (cc)
start_at (final t n b i w) (x ∷ y ∷ prefix) back s m e = start_at w prefix back s m (cc)
start_at (loose t b p i w) prefix back s m e = absurd p
start_at x prefix back s m e = absurd (cc)

pub starts_stand_before_bytes : StartsStandBeforeBytes
starts_stand_before_bytes profile prefix back s m run = (let a = start_at (walk_of run) prefix back s m refl in (a.first, a.left, a.rest, a.behind_start, a.encodes))

-- what stands before the completion of a message
abbrev EndsWithByte : Side → List Item → Type 0
EndsWithByte s prefix = (first : List Item) × (b : ℕ) × (prefix ≡ first ++ Byte s b ∷ [])

behind : (s : Side) (x : Item) (prefix : List Item) → EndsWithByte s prefix → EndsWithByte s (x ∷ prefix)
behind s x prefix e = (x ∷ e.0, e.1, ap (λ l. x ∷ l) e.2)

completion_at : {o : Both Open} {items : List Item} → Walk ⊥ o items → (prefix back : List Item) (s : Side) (m : Message) → items ≡ prefix ++ Completes s m ∷ back → EndsWithByte s prefix
completion_at (ended c d) [] back s m e = absurd (cc)
completion_at (serving k w) [] back s m e = absurd (cc)
completion_at (serving k w) (x ∷ prefix) back s m e = behind s x prefix (completion_at w prefix back s m (cc))
completion_at (opening t n b left i f g w) [] back s m e = absurd (cc)
completion_at (opening t n b left i f g w) (x ∷ y ∷ prefix) back s m e = behind s x (y ∷ prefix) (behind s y prefix (completion_at w prefix back s m (cc)))
completion_at (middle t n b left i f w) [] back s m e = absurd (cc)
completion_at (middle t n b left i f w) (x ∷ prefix) back s m e = behind s x prefix (completion_at w prefix back s m (cc))
completion_at (final t n b i w) [] back s m e = absurd (cc)
completion_at (final t n b i w) (x ∷ []) back s m e =
    let q : Byte t b ≡ x = cc in
    let p : t ≡ s = cc in
    ([], b, ap (λ y. y ∷ []) (sym q ∙ ap (λ u. Byte u b) p))
completion_at (final t n b i w) (x ∷ y ∷ prefix) back s m e = behind s x (y ∷ prefix) (behind s y prefix (completion_at w prefix back s m (cc)))
completion_at (loose t b p i w) prefix back s m e = absurd p
completion_at x prefix back s m e = absurd (cc)

pub completions_stand_after_bytes : CompletionsStandAfterBytes
completions_stand_after_bytes profile prefix back s m run = completion_at (walk_of run) prefix back s m refl
