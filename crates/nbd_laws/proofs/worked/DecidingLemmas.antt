-- Tests that decide the rules of negotiation by computing, and what a message needs to start.
use Rattle.nbd_laws.proofs.Common.{and_parts, not-true, or_cases, ◌≡◌, ℕ, zero, suc, ◌+◌, ◌<◌, ◌≤◌, ◌==◌, ◌&&◌, ◌||◌, not, nat_le, nat_lt, List, [], ◌∷◌, refl, subst, inl, inr, Option, Some, None, Bool, true, false, IsTrue, is_some, eqb-true, arith, eq-eqb, eqb-false, leb-true, ltb-true, Entry, Part, IsServedAt, MayServe, Names, NamesWhole, inside, is_served, inside_of, Side, Client, Server, Message, AreBytes, turn, Exporting, Operation, ends_reply, has_range, is_proper, proper_on, is_in, IsServedFor, MayStartIn, gives, inside_at, inside_operation, is_by_chunk, is_reply_to, is_this, request_of_reply, is_extended, Completes, Starts, same_side, Core, Phase, State, Transmission, export_in, operation}
use Rattle.nbd_wire.specs.declared.commands.TheConstants as commands

-- the second test passes where the first does
pub then_too : (a b : Bool) → IsTrue (not a || b) → IsTrue a → IsTrue b
then_too a b e h = grind arith

abbrev pub equal_bools : Bool → Bool → Bool
equal_bools true b = b
equal_bools false b = not b

pub same_sides : (s t : Side) → IsTrue (same_side s t) → s ≡ t
same_sides s t e = grind arith

-- n offsets from this one on pass the test
abbrev pub all_in : ℕ → ℕ → (ℕ → Bool) → Bool
all_in offset zero p = true
all_in offset (suc n) p = p offset && all_in (suc offset) n p

pub in_range : (offset n x : ℕ) → IsTrue (is_in offset n x) → (offset ≤ x) × (x < offset + n)
in_range offset n x h = (let b = and_parts (nat_le offset x) (nat_lt x (offset + n)) h in (leb-true offset x b.0, ltb-true x (offset + n) b.1))

pub all_at : (offset n : ℕ) (p : ℕ → Bool) → IsTrue (all_in offset n p) → (x : ℕ) → offset ≤ x → x < offset + n → IsTrue (p x)
all_at offset zero p h x l u = absurd (omega arith)
all_at offset (suc n) p h x l u = go (offset == x) refl (and_parts (p offset) (all_in (suc offset) n p) h) (λ r l. all_at (suc offset) n p r x l (omega arith))
  where
    go : (b : Bool) → (offset == x) ≡ b → IsTrue (p offset) × IsTrue (all_in (suc offset) n p) → (IsTrue (all_in (suc offset) n p) → suc offset ≤ x → IsTrue (p x)) → IsTrue (p x)
    go b e r ih = grind (arith, eqb-true, eqb-false)

abbrev pub are_bytes : List ℕ → Bool
are_bytes [] = true
are_bytes (b ∷ bs) = nat_lt b 256 && are_bytes bs

pub bytes_are : (bs : List ℕ) → IsTrue (are_bytes bs) → AreBytes bs
bytes_are [] e = tt
bytes_are (b ∷ bs) e = (let h = and_parts (nat_lt b 256) (are_bytes bs) e in (ltb-true b 256 h.0, bytes_are bs h.1))

abbrev pub is_turn : Option Side → Side → Bool
is_turn (Some t) s = same_side t s
is_turn None s = false

abbrev pub may_start_in : Phase → Core → Side → Message → Bool
may_start_in (Transmission export) core Client m = not core.disconnected && equal_bools (is_extended m) core.extended
may_start_in (Transmission export) core Server m = is_some (request_of_reply core m) && equal_bools (is_extended m) core.extended
may_start_in phase core s m = is_turn (turn phase) s

pub starts_in : (phase : Phase) (core : Core) (s : Side) (m : Message) → IsTrue (may_start_in phase core s m) → MayStartIn phase core s m
unfolding MayStartIn
starts_in phase core s m e = grind (arith, and_parts, not-true, same_sides)

abbrev pub names : List Entry → ℕ → Bool
names [] k = false
names (e ∷ es) k = (e.request == k) || names es k

pub true_names : (es : List Entry) (k : ℕ) → IsTrue (names es k) → Names es k
true_names [] k h = absurd (cc)
true_names (e ∷ es) k h = elim (or_cases (e.request == k) (names es k) h) [ inl q ↦ inl (eqb-true e.request k q) | inr h ↦ inr (true_names es k h) ]

abbrev pub is_unnamed : List Entry → ℕ → Bool
is_unnamed [] k = true
is_unnamed (e ∷ es) k = not (e.request == k) && is_unnamed es k

pub true_is_unnamed : (es : List Entry) (k : ℕ) → IsTrue (is_unnamed es k) → Names es k → ⊥
true_is_unnamed [] k h n = n
true_is_unnamed (e ∷ es) k h n =
    let a = and_parts (not (e.request == k)) (is_unnamed es k) h in
    elim n [ inl q ↦ eqb-false e.request k (not-true (e.request == k) a.0) q | inr m ↦ true_is_unnamed es k a.1 m ]

-- no entry without a part names the request
abbrev pub is_in_parts : List Entry → ℕ → Bool
is_in_parts [] k = true
is_in_parts (e ∷ es) k = (not (e.request == k) || is_some e.part) && is_in_parts es k

true_is_in_parts : (es : List Entry) (k : ℕ) → IsTrue (is_in_parts es k) → NamesWhole es k → ⊥
true_is_in_parts [] k h n = n
true_is_in_parts (e ∷ es) k h n =
    let a = and_parts (not (e.request == k) || is_some e.part) (is_in_parts es k) h in
    elim n [
      | inl q ↦ grind (arith, then_too, eq-eqb)
      | inr m ↦ true_is_in_parts es k a.1 m
    ]

-- an entry names the request, and what lies inside it is served
abbrev pub served_inside : Option Exporting → Option Operation → List Entry → ℕ → Bool
served_inside export (Some e) es k = names es k && all_in e.offset e.length (λ x. not (inside_of (proper_on export e) export e.command e.offset e.length x) || is_served es k x)
served_inside export None es k = names es k

true_served : (export : Option Exporting) (o : Option Operation) (es : List Entry) (k : ℕ) → IsTrue (served_inside export o es k) → (x : ℕ) → IsServedAt (inside_operation export o) es k x
true_served export None es k h x = record { named = true_names es k h; covered = λ i. absurd (let q : false ≡ true = i in cc) }
true_served (Some export) (Some e) es k h x =
    let a = and_parts (names es k) _ h in
    record {
      named = true_names es k a.0;
      covered = λ i.
          (let p = and_parts (is_proper export e || not (e.command == commands.BLOCK_STATUS)) (inside (Some export) e.command e.offset e.length x) i in
          let b = and_parts (has_range e.command) (is_in e.offset e.length x && nat_lt x export.size) p.1 in
          let r = in_range e.offset e.length x (and_parts (is_in e.offset e.length x) (nat_lt x export.size) b.1).0 in
          then_too (inside_of (is_proper export e) (Some export) e.command e.offset e.length x) (is_served es k x)
          (all_at e.offset e.length (λ x. not (inside_of (is_proper export e) (Some export) e.command e.offset e.length x) || is_served es k x) a.1 x r.0 r.1) i);
    }
true_served None (Some e) es k h x = grind (arith, and_parts, true_names)

abbrev pub served_for : Core → List Entry → Option ℕ → Bool
served_for core es (Some k) = served_inside (export_in core.phase) (operation k core.entries) es k
served_for core es None = true

-- the request that a message answers is wholly served
abbrev pub is_served_for : State → Message → Bool
is_served_for state m = served_for state.core state.served (request_of_reply state.core m)

served_at : (state : State) (m : Message) → IsTrue (is_served_for state m) → (k x : ℕ) → is_reply_to state.core m k ≡ true → IsServedAt (inside_at state.core k) state.served k x
served_at state m e k x r = go (request_of_reply state.core m) r e
  where
    go : (o : Option ℕ) → is_this o k ≡ true → IsTrue (served_for state.core state.served o) → IsServedAt (inside_at state.core k) state.served k x
    go (Some j) r e =
        subst (λ i. IsServedAt (inside_at state.core i) state.served i x) (eqb-true j k r)
        (true_served (export_in state.core.phase) (operation j state.core.entries) state.served j e x)
    go None r e = absurd (cc)

pub serves_start : (state : State) (s : Side) (m : Message) → IsTrue (is_served_for state m) → IsServedFor state (Starts s m)
serves_start state s m e k x d = served_at state m e k x (and_parts (is_reply_to state.core m k) (not (is_by_chunk state.core.profile (operation k state.core.entries))) d).0

pub serves_end : (state : State) (s : Side) (m : Message) → IsTrue (is_served_for state m) → IsServedFor state (Completes s m)
serves_end state s m e k x d = served_at state m e k x
    (and_parts (is_reply_to state.core m k) (is_by_chunk state.core.profile (operation k state.core.entries) && (ends_reply m || (inside_at state.core k x && gives (operation k state.core.entries) m x))) d).0

-- an entry with this part may be served after these
abbrev pub is_fresh : (within : ℕ → Bool) → List Entry → ℕ → Option Part → Bool
is_fresh within before k None = is_unnamed before k
is_fresh within before k (Some p) =
    is_in_parts before k && (nat_lt 0 p.length && all_in p.offset p.length (λ x. within x && not (is_served before k x)))

pub true_is_fresh : (within : ℕ → Bool) (before : List Entry) (e : Entry) → IsTrue (is_fresh within before e.request e.part) → MayServe within before e
true_is_fresh within before e h = go e.part h
  where
    go : (p : Option Part) → IsTrue (is_fresh within before e.request p) → MayServe within before (record { request = e.request; part = p })
    go None h = ((λ n. true_is_unnamed before e.request h n), λ b. b)
    go (Some p) h =
        let a = and_parts (is_in_parts before e.request) _ h in
        let b = and_parts (nat_lt 0 p.length) _ a.1 in
        let each = λ (x : ℕ) (i : IsTrue (is_in p.offset p.length x)). (let r = in_range p.offset p.length x i in and_parts (within x) (not (is_served before e.request x)) (all_at p.offset p.length (λ x. within x && not (is_served before e.request x)) b.1 x r.0 r.1)) in
        grind (arith, a, b, each, and_parts, nat_lt, ltb-true, in_range, all_at, true_is_in_parts, not-true)
