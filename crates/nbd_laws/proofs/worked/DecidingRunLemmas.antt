-- Tests that decide by computing whether items are a run.
use Rattle.nbd_laws.proofs.Common.{ap, arith, and_parts, ◌≡◌, ◌&&◌, ◌==◌, nat_le, nat_lt, refl, List, [], ◌∷◌, ◌++◌, length, Bool, true, false, IsTrue, flat_map, eqb-true, bytes_eq-Decides, leb-true, ltb-true, Side, Client, Server, Message, Greeting, ClientFlags, Choice, Answer, Exported, Request, Simple, Chunk, enc, Item, Byte, Starts, Completes, Serves, IsTight, block, of_side, Allows, IsRunOf, MayComplete, Obeys, after, inside_at, same_side, side, Profile, Base, ended_messages, Core, Phase, State, start, start_of, Bad, More, Reading, Whole, judge_in}
use Rattle.nbd_laws.proofs.worked.DecidingLemmas.{are_bytes, bytes_are, is_fresh, is_served_for, may_start_in, same_sides, serves_end, serves_start, starts_in, true_is_fresh}
use Rattle.std.specs.Str.{bytes_eq}

-- the same message
abbrev pub is_same : Message → Message → Bool
is_same (Greeting f) (Greeting g) = f == g
is_same (ClientFlags f) (ClientFlags g) = f == g
is_same (Choice a p) (Choice b q) = (a == b) && bytes_eq p q
is_same (Answer a k p) (Answer b l q) = (a == b) && ((k == l) && bytes_eq p q)
is_same (Exported s f true) (Exported t g true) = (s == t) && (f == g)
is_same (Exported s f false) (Exported t g false) = (s == t) && (f == g)
is_same (Request f k c o l p) (Request g j d x n q) = (f == g) && ((k == j) && ((c == d) && ((o == x) && ((l == n) && bytes_eq p q))))
is_same (Simple e c p) (Simple f d q) = (e == f) && ((c == d) && bytes_eq p q)
is_same (Chunk f k c p) (Chunk g j d q) = (f == g) && ((k == j) && ((c == d) && bytes_eq p q))
is_same m n = false

same : (m n : Message) → IsTrue (is_same m n) → m ≡ n
same m n h = grind (arith, and_parts, eqb-true, bytes_eq-Decides)

-- its bytes are read as it
abbrev pub is_whole : Message → Reading → Bool
is_whole m (Whole n) = is_same n m
is_whole m r = false

abbrev pub may_complete : Core → Phase → Message → Bool
may_complete core phase m = is_whole m (judge_in phase core core (side m) (enc m))

pub completes : (core : Core) (phase : Phase) (m : Message) → IsTrue (may_complete core phase m) → MayComplete core phase m
unfolding MayComplete
completes core phase m h = go (judge_in phase core core (side m) (enc m)) refl h
  where
    go : (r : Reading) → judge_in phase core core (side m) (enc m) ≡ r → IsTrue (is_whole m r) → r ≡ Whole m
    go (Whole n) e h = ap Whole (same n m h)
    go More e h = absurd (cc)
    go (Bad fault) e h = absurd (cc)

abbrev pub allows : State → Item → Bool
allows state (Byte s b) = true
allows state (Starts s m) = same_side (side m) s && (are_bytes (enc m) && (may_start_in state.core.phase state.core s m && is_served_for state m))
allows state (Completes s m) = may_complete state.core state.core.phase m && is_served_for state m
allows state (Serves e) =
    nat_lt 0 e.request && (nat_le e.request (length state.core.entries) && is_fresh (inside_at state.core e.request) state.served e.request e.part)

pub true_allows : (state : State) (item : Item) → IsTrue (allows state item) → Allows state item
true_allows state (Byte s b) h = tt
true_allows state (Starts s m) h =
    let a = and_parts (same_side (side m) s) _ h in
    let b = and_parts (are_bytes (enc m)) _ a.1 in
    let c = and_parts (may_start_in state.core.phase state.core s m) (is_served_for state m) b.1 in
    (same_sides (side m) s a.0, bytes_are (enc m) b.0, starts_in state.core.phase state.core s m c.0, serves_start state s m c.1)
true_allows state (Completes s m) h =
    let a = and_parts (may_complete state.core state.core.phase m) (is_served_for state m) h in
    (completes state.core state.core.phase m a.0, serves_end state s m a.1)
true_allows state item h = grind (arith, and_parts, same_sides, bytes_are, starts_in, serves_start, completes, serves_end, nat_lt, nat_le, ltb-true, leb-true, true_is_fresh, inside_at)

-- each item passes the test where it stands
abbrev pub obeys : State → List Item → Bool
obeys state [] = true
obeys state (item ∷ items) = allows state item && obeys (after state item) items

pub true_obeys : (items : List Item) (state : State) → IsTrue (obeys state items) → Obeys state items
true_obeys [] state h = tt
true_obeys (item ∷ items) state h = (let a = and_parts (allows state item) (obeys (after state item) items) h in (true_allows state item a.0, true_obeys items (after state item) a.1))

abbrev pub is_byte_of : Side → Item → Bool
is_byte_of s (Byte t b) = same_side s t
is_byte_of s item = false

abbrev pub may_follow : Item → Item → Bool
may_follow (Starts s m) next = is_byte_of s next
may_follow (Byte s b) (Completes t m) = same_side s t
may_follow (Completes s m) (Completes t n) = false
may_follow (Serves k) (Completes t m) = false
may_follow item next = true

abbrev pub is_tight : List Item → Bool
is_tight [] = true
is_tight (item ∷ []) = true
is_tight (item ∷ next ∷ items) = may_follow item next && is_tight (next ∷ items)

pub tight : (items : List Item) → IsTrue (is_tight items) → IsTight items
tight (item ∷ next ∷ items) h = (let a = and_parts (may_follow item next) (is_tight (next ∷ items)) h in ((grind (arith, same_sides)), tight (next ∷ items) a.1))
tight items h = tt

-- items that pass the tests are a run of the profile
pub is_run_of : (profile : Profile) (items : List Item) → of_side Client items ≡ flat_map (block Client) (ended_messages Client items) ++ [] → of_side Server items ≡ flat_map (block Server) (ended_messages Server items) ++ [] →
    IsTrue (is_tight items) → IsTrue (obeys (start_of profile) items) → IsRunOf profile items
is_run_of profile items c s t o = search (tight, true_obeys)

pub is_run : (items : List Item) → of_side Client items ≡ flat_map (block Client) (ended_messages Client items) ++ [] → of_side Server items ≡ flat_map (block Server) (ended_messages Server items) ++ [] →
    IsTrue (is_tight items) → IsTrue (obeys start items) → IsRunOf Base items
is_run items c s t o = is_run_of Base items c s t o
