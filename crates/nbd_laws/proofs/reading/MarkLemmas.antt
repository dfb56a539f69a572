-- A run's pairs are read without a fault, and what completes is the run's.
use Rattle.nbd_laws.proofs.Common.{AreBytes, judge, arith, ◌≡◌, ℕ, ◌<◌, List, [], ◌∷◌, ◌++◌, length, refl, sym, ◌∙◌, ap, subst, Ok, append_assoc, append-nil, Entry, Side, Message, enc, side, Item, pairs, Pair, ArePairs, Core, MayStart, MayComplete, complete, Obeys, within, Both, get, put, IsFilled, Rest, Reader, Reading, More, Whole, Bad, old_of, rest_with, reads, with_message}
use Rattle.nbd_laws.proofs.{judge.SoundLemmas.sendable_of, reading.ReaderLemmas.{put_both, IsFilled-snoc, old-empty, old-filled, Kept, AreHeld, kept_next, held_more, held_whole, reached_of, get-put_same, Open, Idle, Busy, Loose, Walk, ended, serving, opening, middle, final, loose, Later, at_once, behind, Later-trans, IsExact}}
use Rattle.nbd_laws.proofs.runs.{FollowLemmas.{HasEnd, IsSidedOpen, completes_later, each_with, follows}, TraceLemmas.IsWithin}

-- the reader stands where the run stands
abbrev pub InStep : Core → Rest → Side → Open → Type 0
InStep core rest s Idle = rest.bytes ≡ []
InStep core rest s (Busy m left) = IsWithin rest s m left × Later s rest.since core
InStep core rest s Loose = ⊥

abbrev pub AreInStep : Reader → Both Open → Type 0
AreInStep reader o = (s : Side) → InStep reader.core (get reader.rests s) s (get o s)

pub record IsRead (reader : Reader) (ps : List Pair) (messages : List Message) : Type 0 where
  pub end : Reader
  pub reads_it : reads reader ps ≡ Ok end
  pub messages_are : end.messages ≡ reader.messages ++ messages

pub in_step_sided : (reader : Reader) (o : Both Open) → AreInStep reader o → (u : Side) → IsSidedOpen u (get o u)
in_step_sided reader o h u = grind arith

pub in_step_with : (reader : Reader) (o : Both Open) (s : Side) (rest : Rest) (x : Open) → AreInStep reader o → InStep reader.core rest s x →
    AreInStep (record reader { rests = put reader.rests s rest }) (put o s x)
in_step_with reader o s rest x all h u = put_both (λ u r y. InStep reader.core r u y) reader.rests o s rest x h (λ u ne. all u) u

-- a completed message of side s leaves the other side in step
pub in_step_completed : (reader : Reader) (o : Both Open) (s : Side) (m : Message) (rest : Rest) → AreInStep reader o → side m ≡ s → MayComplete reader.core reader.core.phase m →
    AreInStep (with_message reader s rest m) (put o s Idle)
in_step_completed reader o s m rest all sd ok u = put_both (λ u r y. InStep (complete reader.core m) r u y) reader.rests o s (record rest { bytes = [] }) Idle refl (λ u ne. moved u (get o u) ne (all u)) u
  where
    moved : (u : Side) (x : Open) → (s ≡ u → ⊥) → InStep reader.core (get reader.rests u) u x → InStep (complete reader.core m) (get reader.rests u) u x
    moved u Idle ne i = i
    moved u (Busy n left) ne i = (i.0, Later-trans i.1 (behind m (λ q. ne (sym sd ∙ q)) ok at_once))
    moved u Loose ne i = i

abbrev pub reads_next : (reader : Reader) (s : Side) (b : ℕ) (ps : List Pair) (messages : List Message) → Reading → Type 0
reads_next reader s b ps messages More =
    IsRead (record reader { rests = put reader.rests s (rest_with reader.core (get reader.rests s) b) }) ps messages
reads_next reader s b ps messages (Whole m) =
    (rest : List Message) × (messages ≡ m ∷ rest)
    × IsRead (with_message reader s (rest_with reader.core (get reader.rests s) b) m) ps rest
reads_next reader s b ps messages (Bad f) = ⊥

-- a step and what follows it
read_on : (reader : Reader) (s : Side) (b : ℕ) (ps : List Pair) (messages : List Message) (r : Reading) →
    judge (rest_with reader.core (get reader.rests s) b).since reader.core s (rest_with reader.core (get reader.rests s) b).bytes ≡ r →
    reads_next reader s b ps messages r → IsRead reader (record { from = s; byte = b } ∷ ps) messages
read_on reader s b ps messages r e h = grind (arith, append_assoc)

nothing_read : (reader : Reader) (messages : List Message) → messages ≡ [] → IsRead reader [] messages
nothing_read reader messages e = record { end = reader; reads_it = refl; messages_are = sym (append-nil reader.messages) ∙ ap (λ ms. reader.messages ++ ms) (sym e) }

-- the rest with one more byte
pub within_opening : (core : Core) (rest : Rest) (s : Side) (m : Message) (b : ℕ) (left : List ℕ) → rest.bytes ≡ [] → enc m ≡ b ∷ left → IsFilled left → side m ≡ s → AreBytes (enc m) → MayStart core s m →
    InStep core (rest_with core rest b) s (Busy m left)
within_opening core rest s m b left e f g sd sn ms = (
  record {
    filled = IsFilled-snoc rest.bytes b;
    unfinished = g;
    encodes = f ∙ ap (λ bs. (bs ++ b ∷ []) ++ left) (sym e);
    sided = sd;
    are_bytes = sn;
    starts = subst (λ c. MayStart c s m) (sym (old-empty core rest e)) ms;
  },
  subst (λ c. Later s c core) (sym (old-empty core rest e)) at_once,
)

pub within_middle : (core : Core) (rest : Rest) (s : Side) (m : Message) (b : ℕ) (left : List ℕ) → InStep core rest s (Busy m (b ∷ left)) → IsFilled left → InStep core (rest_with core rest b) s (Busy m left)
within_middle core rest s m b left i g = search (IsFilled-snoc, append_assoc, old-filled)

pub judged_more : IsExact → (core : Core) (rest : Rest) (s : Side) (m : Message) (left : List ℕ) → InStep core rest s (Busy m left) → HasEnd s core m → Kept s rest.since core rest.bytes → judge rest.since core s rest.bytes ≡ More
judged_more exact core rest s m left i end k = grind arith

pub judged_whole : IsExact → (core : Core) (rest : Rest) (s : Side) (m : Message) (b : ℕ) → InStep core rest s (Busy m (b ∷ [])) → MayComplete core core.phase m → Kept s (old_of core rest) core (rest.bytes ++ b ∷ []) →
    judge (old_of core rest) core s (rest.bytes ++ b ∷ []) ≡ Whole m
judged_whole exact core rest s m b i ok k = grind (arith, old-filled)

-- the pairs that a walk begins with are read, with the messages that complete within them
pub marks : IsExact → {o : Both Open} {items : List Item} (w : Walk ⊥ o items) (reader : Reader) (js : List Entry) →
    Obeys (record { core = reader.core; served = js }) items → AreInStep reader o → AreHeld reader → (ps more : List Pair) → ArePairs ps → pairs items ≡ ps ++ more → IsRead reader ps (within (length ps) items)
marks exact (ended c d) reader js ob st hd (p ∷ ps) more lt e = absurd (cc)
marks exact (serving k w) reader js ob st hd ps more lt e = marks exact w reader _ ob.1 st hd ps more lt e
marks exact {o} (opening s m b left {items = items} is f g w) reader js ob st hd (p ∷ ps) more lt e =
    let p_is : record { from = s; byte = b } ≡ p = cc in
    let b_lt : b < 256 = subst (λ (q : Pair). q.byte < 256) (sym p_is) lt.0 in
    let e' : pairs items ≡ ps ++ more = cc in
    let i : InStep reader.core (rest_with reader.core (get reader.rests s) b) s (Busy m left) =
    within_opening reader.core (get reader.rests s) s m b left (subst (InStep reader.core (get reader.rests s) s) is (st s)) f g ob.0.0 ob.0.1 ob.0.2 in
    let end : HasEnd s reader.core m = completes_later w reader.core (follows items (record { core = reader.core; served = js }) ob.1.1) (each_with IsSidedOpen o s (Busy m left) (in_step_sided reader o st) ob.0.0) s m left (get-put_same o s (Busy m left)) in
    let j : judge (rest_with reader.core (get reader.rests s) b).since reader.core s (rest_with reader.core (get reader.rests s) b).bytes ≡ More =
    judged_more exact reader.core (rest_with reader.core (get reader.rests s) b) s m left i end (kept_next reader.core s (get reader.rests s) b b_lt (hd s)) in
    subst (λ q. IsRead reader (q ∷ ps) (within (length ps) items)) p_is
    (read_on reader s b ps _ More j
    (marks exact w _ js ob.1.1 (in_step_with reader o s (rest_with reader.core (get reader.rests s) b) (Busy m left) st i) (held_more reader s b b_lt hd j) ps more lt.1 e'))
marks exact {o} (middle s m b left {items = items} is g w) reader js ob st hd (p ∷ ps) more lt e =
    let p_is : record { from = s; byte = b } ≡ p = cc in
    let b_lt : b < 256 = subst (λ (q : Pair). q.byte < 256) (sym p_is) lt.0 in
    let e' : pairs items ≡ ps ++ more = cc in
    let i0 : InStep reader.core (get reader.rests s) s (Busy m (b ∷ left)) = subst (InStep reader.core (get reader.rests s) s) is (st s) in
    let i : InStep reader.core (rest_with reader.core (get reader.rests s) b) s (Busy m left) = within_middle reader.core (get reader.rests s) s m b left i0 g in
    let end : HasEnd s reader.core m = completes_later w reader.core (follows items (record { core = reader.core; served = js }) ob.1) (each_with IsSidedOpen o s (Busy m left) (in_step_sided reader o st) i0.0.sided) s m left (get-put_same o s (Busy m left)) in
    let j : judge (rest_with reader.core (get reader.rests s) b).since reader.core s (rest_with reader.core (get reader.rests s) b).bytes ≡ More =
    judged_more exact reader.core (rest_with reader.core (get reader.rests s) b) s m left i end (kept_next reader.core s (get reader.rests s) b b_lt (hd s)) in
    subst (λ q. IsRead reader (q ∷ ps) (within (length ps) items)) p_is
    (read_on reader s b ps _ More j
    (marks exact w _ js ob.1 (in_step_with reader o s (rest_with reader.core (get reader.rests s) b) (Busy m left) st i) (held_more reader s b b_lt hd j) ps more lt.1 e'))
marks exact {o} (final s m b {items = items} is w) reader js ob st hd (p ∷ ps) more lt e =
    let p_is : record { from = s; byte = b } ≡ p = cc in
    let b_lt : b < 256 = subst (λ (q : Pair). q.byte < 256) (sym p_is) lt.0 in
    let e' : pairs items ≡ ps ++ more = cc in
    let i0 : InStep reader.core (get reader.rests s) s (Busy m (b ∷ [])) = subst (InStep reader.core (get reader.rests s) s) is (st s) in
    subst (λ q. IsRead reader (q ∷ ps) (m ∷ within (length ps) items)) p_is
    (read_on reader s b ps _ (Whole m) (judged_whole exact reader.core (get reader.rests s) s m b i0 ob.1.0.0 (kept_next reader.core s (get reader.rests s) b b_lt (hd s)))
    (within (length ps) items, refl, marks exact w _ js ob.1.1 (in_step_completed reader o s m (rest_with reader.core (get reader.rests s) b) st i0.0.sided ob.1.0.0) (held_whole reader s m _ refl hd i0.0.sided (sendable_of m (reached_of (hd s)) ob.1.0.0 i0.0.are_bytes) ob.1.0.0) ps more lt.1 e'))
marks exact (loose s b absent is w) reader js ob st hd ps more lt e = absurd absent
marks exact w reader js ob st hd [] more lt e = nothing_read reader _ refl
