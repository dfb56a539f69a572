-- A reply completes for the request for which it started.
use Rattle.nbd_laws.proofs.Common.{arith, ◌≡◌, ℕ, List, [], ◌∷◌, ◌++◌, refl, sym, ◌∙◌, ap, subst, Option, Some, None, Side, Client, Server, Message, Profile, Item, Byte, Starts, Completes, Serves, Exporting, IsRunOf, MayStartIn, request_of_reply, Obeys, after, cookie_of, ends_at, option_and_then, target, side, Core, State, Transmission, start, start_of, RepliesEndAsTheyStart, Both, get}
use Rattle.nbd_laws.proofs.{runs.{FollowLemmas.{Follows, IsSidedOpen, each_with, follows}, PartLemmas.{StandsAt, obeys_back, start_at}, ProfileLemmas.{phase_at_base, reply_at_base}, RunLemmas.walk_of}, judge.PhaseLemmas.{IsAppended, Later-appended, target-append}}
use Rattle.nbd_laws.proofs.{reading.ReaderLemmas.{get-put_same, get-put_other, same_or_not, Open, Idle, Busy, Walk, ended, serving, opening, middle, final, loose, Later, at_once, behind}, requests.OutstandingLemmas.in_transmission}
use Rattle.nbd_laws.specs.Prefixes as prefixes

-- the message that is open is the next of its side to complete
same_end : {o : Both Open} {items : List Item} → Walk ⊥ o items → (s : Side) (m n : Message) (left : List ℕ) (inner back : List Item) → get o s ≡ Busy m left → items ≡ inner ++ Completes s n ∷ back → prefixes.ended_messages s inner ≡ [] → n ≡ m
same_end (ended c d) s m n left [] back b e h = absurd (cc)
same_end (serving k w) s m n left [] back b e h = absurd (cc)
same_end (serving k w) s m n left (x ∷ inner) back b e h = grind (arith, same_end w s m n left inner back)
same_end (opening t a c more i g u w) s m n left [] back b e h = absurd (cc)
same_end (opening t a c more i g u w) s m n left (x ∷ []) back b e h = absurd (cc)
same_end {o} (opening t a c more i g u w) s m n left (x ∷ y ∷ inner) back b e h = grind (arith, same_end w s m n left inner back, same_or_not t s, get-put_other o t s (Busy a more))
same_end (middle t a c more i u w) s m n left [] back b e h = absurd (cc)
same_end {o} (middle t a c more i u w) s m n left (x ∷ inner) back b e h =
    grind (arith, same_end w s m n left inner back, same_end w s a n more inner back, same_or_not t s, get-put_same o t (Busy a more), get-put_other o t s (Busy a more))
same_end (final t a c i w) s m n left [] back b e h = absurd (cc)
same_end (final t a c i w) s m n left (x ∷ []) back b e h = grind arith
same_end {o} (final t a c i w) s m n left (x ∷ y ∷ inner) back b e h = grind (arith, same_end w s m n left inner back, same_or_not t s, get-put_other o t s Idle)
same_end (loose t c p i w) s m n left inner back b e h = absurd p
same_end x s m n left inner back b e h = absurd (cc)

-- each message completes on its own side
abbrev AreSided : List Item → Type 0
AreSided [] = Unit {0}
AreSided (Completes s m ∷ items) = (side m ≡ s) × AreSided items
AreSided (item ∷ items) = AreSided items

sided : {o : Both Open} {items : List Item} → Walk ⊥ o items → (core : Core) → Follows core items → ((u : Side) → IsSidedOpen u (get o u)) → AreSided items
sided (ended c d) core f all = tt
sided (serving k w) core f all = sided w core f all
sided {o} (opening s m b left i g u w) core f all = sided w core f.1 (each_with IsSidedOpen o s (Busy m left) all f.0.sided)
sided {o} (middle s m b left i u w) core f all = sided w core f (each_with IsSidedOpen o s (Busy m left) all (subst (IsSidedOpen s) i (all s)))
sided {o} (final s m b i w) core f all = (subst (IsSidedOpen s) i (all s), sided w _ f.1 (each_with IsSidedOpen o s Idle all tt))
sided (loose s b p i w) core f all = absurd p

sided_back : (prefix back : List Item) → AreSided (prefix ++ back) → AreSided back
sided_back [] back a = a
sided_back (Completes s m ∷ prefix) back a = sided_back prefix back a.1
sided_back (item ∷ prefix) back a = sided_back prefix back a

-- until a message of the server completes, only the client's do
later : (inner back : List Item) (state : State) → Obeys state (inner ++ back) → AreSided (inner ++ back) → prefixes.ended_messages Server inner ≡ [] → Later Server state.core (ends_at state inner).core
later [] back state ob a h = at_once
later (Completes Client m ∷ inner) back state ob a h = behind m (λ q. (let r : Client ≡ Server = sym a.0 ∙ q in cc)) ob.0.0 (later inner back (after state (Completes Client m)) ob.1 a.1 h)
later (Completes Server m ∷ inner) back state ob a h = absurd (cc)
later (Serves k ∷ inner) back state ob a h = later inner back (after state (Serves k)) ob.1 a h
later (item ∷ inner) back state ob a h = later inner back state ob.1 a h

ends_at-append : (state : State) (prefix back : List Item) → ends_at state (prefix ++ back) ≡ ends_at (ends_at state prefix) back
ends_at-append state [] back = refl
ends_at-append state (item ∷ prefix) back = ends_at-append (after state item) prefix back

-- the same request has the reply's cookie where the reply ends
same_answer : (c d : Core) (export : Exporting) (m : Message) (k : ℕ) → Later Server c d → c.phase ≡ Transmission export → request_of_reply c m ≡ Some k → request_of_reply d m ≡ request_of_reply c m
same_answer c d export m k l t a = go (cookie_of m) refl
  where
    go : (o : Option ℕ) → cookie_of m ≡ o → request_of_reply d m ≡ request_of_reply c m
    go None q = ap (λ o. option_and_then (λ k. target k d.entries) o) q ∙ sym (ap (λ o. option_and_then (λ k. target k c.entries) o) q)
    go (Some cookie) q =
        let p : IsAppended c d = Later-appended l export t in
        grind (arith, p, Later-appended, target-append)

asked_at_start : (profile : Profile) (prefix back : List Item) (m : Message) (export : Exporting) → IsRunOf profile (prefix ++ Starts Server m ∷ back) → (ends_at (start_of profile) prefix).core.phase ≡ Transmission export →
    (k : ℕ) × (request_of_reply (ends_at (start_of profile) prefix).core m ≡ Some k)
unfolding MayStartIn
asked_at_start profile prefix back m export run on = grind (arith, obeys_back)

pub replies_end_as_they_start : RepliesEndAsTheyStart
replies_end_as_they_start profile prefix inner back m n export run on none =
    let old : State = ends_at (start_of profile) prefix in
    let items : List Item = prefix ++ Starts Server m ∷ (inner ++ Completes Server n ∷ back) in
    let now_is : (ends_at (start_of profile) (prefix ++ Starts Server m ∷ inner)).core ≡ (ends_at old inner).core = ap (λ (s : State). s.core) (ends_at-append (start_of profile) prefix (Starts Server m ∷ inner)) in
    let at : StandsAt (inner ++ Completes Server n ∷ back) Server m = start_at (walk_of run) prefix (inner ++ Completes Server n ∷ back) Server m refl in
    let all : AreSided items = sided (walk_of run) (start_of profile).core (follows items (start_of profile) run.obeys) (elim [ Client ↦ tt | Server ↦ tt ]) in
    let l : Later Server old.core (ends_at old inner).core = later inner (Completes Server n ∷ back) old (obeys_back (start_of profile) prefix (Starts Server m ∷ (inner ++ Completes Server n ∷ back)) run.obeys).1 (sided_back prefix (Starts Server m ∷ (inner ++ Completes Server n ∷ back)) all) none in
    let phase : old.core.phase ≡ Transmission export = phase_at_base profile prefix ∙ in_transmission (ends_at start prefix).core.phase export on in
    let a : (k : ℕ) × (request_of_reply old.core m ≡ Some k) = asked_at_start profile prefix (inner ++ Completes Server n ∷ back) m export run phase in
    (next_same at, sym (reply_at_base profile (prefix ++ Starts Server m ∷ inner) m) ∙ ap (λ c. request_of_reply c m) now_is ∙ same_answer old.core (ends_at old inner).core export m a.0 l phase a.1 ∙ reply_at_base profile prefix m)
  where
    -- behind the byte that stands at the start
    next_same : StandsAt (inner ++ Completes Server n ∷ back) Server m → n ≡ m
    next_same at = go inner none at.behind_start
      where
        go : (inner : List Item) → prefixes.ended_messages Server inner ≡ [] → inner ++ Completes Server n ∷ back ≡ Byte Server at.first ∷ at.rest → n ≡ m
        go [] h e = absurd (cc)
        go (x ∷ inner) h e = grind (arith, same_end at.walk Server m n at.left inner back, at.busy)
