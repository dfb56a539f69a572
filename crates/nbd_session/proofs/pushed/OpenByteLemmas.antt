-- The bytes that belong to no completed message are the rests, and more of them may come.
use Rattle.nbd_session.proofs.Common.{arith, ◌≡◌, ℕ, List, [], ◌∷◌, ◌++◌, map, refl, sym, ◌∙◌, ap, subst, Ok, append_assoc, append-nil, append_cancel_left, Profile, Side, Client, Server, Message, enc, Item, Byte, Completes, completed_messages, pairs, Pair, ArePairs, side_pairs, bytes_of, bytes_from, IsRunBut, Obeys, after, side, start_of, judge, Bad, Both, Reader, More, Reading, Rest, Whole, fresh_of, get, rest_with, on_ok, put, reads, settle, AreHeld, IsSound, IsSoundAt, Open, Walk, ended, final, held_more, held_whole, kept_next, loose, middle, opening, serving, with_byte, marked_is_walk, with_more, fresh_held, run_but_law, AreBytesOf, byte_from, bytes_from-cons, run_bytes, sound, IsNotBusy, walk_is_marked, of_two}
use Rattle.nbd_session.proofs.pushed.{HoldingLemmas.{from-append, from-client_sent, from-sent_same, from-server_sent}, PushLemmas.bytes_of-snoc}
use Rattle.nbd_wire.specs.Prelude.{with_message, State}

-- what a reader holds of a side's bytes
abbrev pub held_bytes : Side → Reader → List ℕ
held_bytes s reader = bytes_of s reader.messages ++ (get reader.rests s).bytes

bytes_more : (s t : Side) (b : ℕ) (reader : Reader) → held_bytes s (record reader { rests = put reader.rests t (rest_with reader.core (get reader.rests t) b) }) ≡ held_bytes s reader ++ byte_from s t b
bytes_more s t b reader = grind (arith, append_assoc, append-nil)

abbrev emptied : Reader → Side → ℕ → Message → Reader
emptied reader t b m = with_message reader t (rest_with reader.core (get reader.rests t) b) m

bytes_whole : (s t : Side) (b : ℕ) (m : Message) (reader : Reader) → side m ≡ t → (rest_with reader.core (get reader.rests t) b).bytes ≡ enc m → held_bytes s (emptied reader t b m) ≡ held_bytes s reader ++ byte_from s t b
bytes_whole s t b m reader sd e = grind (arith, bytes_of-snoc, byte_from, append-nil, append_assoc)

-- the reader holds what it read
pub reads_bytes : IsSound → (s : Side) (ps : List Pair) (reader end : Reader) → ArePairs ps → AreHeld reader → reads reader ps ≡ Ok end →
    held_bytes s reader ++ bytes_from s ps ≡ held_bytes s end
reads_bytes sd s [] reader end lt held e = let q : reader ≡ end = cc in append-nil (held_bytes s reader) ∙ ap (held_bytes s) q
reads_bytes sd s (p ∷ ps) reader end lt held e = go (judge rest.since reader.core p.from rest.bytes) refl (λ next hd h. reads_bytes sd s ps next end lt.1 hd h) e
  where
    rest : Rest
    rest = rest_with reader.core (get reader.rests p.from) p.byte

    joined : (next : Reader) → held_bytes s next ≡ held_bytes s reader ++ byte_from s p.from p.byte → held_bytes s next ++ bytes_from s ps ≡ held_bytes s end → held_bytes s reader ++ bytes_from s (p ∷ ps) ≡ held_bytes s end
    joined next is ih =
        ap (λ l. held_bytes s reader ++ l) (bytes_from-cons s p ps) ∙ sym (append_assoc (held_bytes s reader) (byte_from s p.from p.byte) (bytes_from s ps)) ∙ ap (λ l. l ++ bytes_from s ps) (sym is) ∙ ih

    go : (r : Reading) → judge rest.since reader.core p.from rest.bytes ≡ r → ((next : Reader) → AreHeld next → reads next ps ≡ Ok end → held_bytes s next ++ bytes_from s ps ≡ held_bytes s end) →
        on_ok (settle reader p.from rest r) (λ next. reads next ps) ≡ Ok end → held_bytes s reader ++ bytes_from s (p ∷ ps) ≡ held_bytes s end
    go More is ih e = joined (with_byte reader p.from p.byte) (bytes_more s p.from p.byte reader) (ih (with_byte reader p.from p.byte) (held_more reader p.from p.byte lt.0 held is) e)
    go (Whole m) is ih e =
        let ok : IsSoundAt rest.since reader.core p.from rest.bytes m = sd rest.since reader.core p.from rest.bytes m (kept_next reader.core p.from (get reader.rests p.from) p.byte lt.0 (held p.from)) is in
        joined (emptied reader p.from p.byte m) (bytes_whole s p.from p.byte m reader ok.sided ok.encodes)
        (ih (emptied reader p.from p.byte m) (held_whole reader p.from m (record rest { bytes = [] }) refl held ok.sided ok.sendable ok.completes) e)
    go (Bad fault) is ih e = absurd (cc)

-- the loose bytes of a run with these pairs and messages
pub loose_is : (s : Side) (items : List Item) (ps : List Pair) (messages : List Message) (rest bytes : List ℕ) → pairs items ≡ ps → completed_messages items ≡ messages →
    bytes_from s (pairs items) ≡ bytes_of s (completed_messages items) ++ rest → bytes_from s ps ≡ bytes_of s messages ++ bytes → rest ≡ bytes
loose_is s items ps messages rest bytes p c e f = grind (arith, append_cancel_left)

-- the same of both sides
run_as : {profile : Profile} (items : List Item) (ps : List Pair) (messages : List Message) (a b client server : List ℕ) → IsRunBut profile items a b → pairs items ≡ ps → completed_messages items ≡ messages →
    ((s : Side) → bytes_from s ps ≡ bytes_of s messages ++ of_two s client server) → IsRunBut profile items client server
run_as {profile} items ps messages a b client server run p c holds =
    let are : AreBytesOf items a b = run_bytes items a b run in
    subst (λ x. IsRunBut profile items x server) (loose_is Client items ps messages a client p c are.of_client (holds Client))
    (subst (λ y. IsRunBut profile items a y) (loose_is Server items ps messages b server p c are.of_server (holds Server)) run)

-- what a reader read is each side's messages and rest
pub read_holds : (profile : Profile) (ps : List Pair) (end : Reader) (messages : List Message) (client server : List ℕ) → ArePairs ps → reads (fresh_of profile) ps ≡ Ok end →
    end.messages ≡ messages → end.rests.client.bytes ≡ client → end.rests.server.bytes ≡ server → (s : Side) → bytes_from s ps ≡ bytes_of s messages ++ of_two s client server
read_holds profile ps end messages client server lt e m c d Client = reads_bytes sound Client ps (fresh_of profile) end lt (fresh_held) e ∙ (λ i. bytes_of Client (m i) ++ c i)
read_holds profile ps end messages client server lt e m c d Server = reads_bytes sound Server ps (fresh_of profile) end lt (fresh_held) e ∙ (λ i. bytes_of Server (m i) ++ d i)

-- it is a run with exactly these pairs and messages, and its rests are the bytes of no message
pub read_is_run_but : {profile : Profile} (ps : List Pair) (end : Reader) (messages : List Message) (client server : List ℕ) → ArePairs ps → reads (fresh_of profile) ps ≡ Ok end →
    end.messages ≡ messages → end.rests.client.bytes ≡ client → end.rests.server.bytes ≡ server →
    (items : List Item) × IsRunBut profile items client server × (pairs items ≡ ps) × (completed_messages items ≡ messages)
read_is_run_but {profile} ps end messages client server lt e m c d =
    let r = run_but_law sound ps end lt e in
    (r.0, run_as r.0 ps messages r.1 r.2 client server r.3 r.4 (r.5 ∙ m) (read_holds profile ps end messages client server lt e m c d), r.4, r.5 ∙ m)

abbrev pub bytes_items : Side → List ℕ → List Item
bytes_items s bs = map (λ b. Byte s b) bs

-- a walk ends between two messages of a side: bytes may stand after it
walk_bytes : {o : Both Open} (s : Side) (bs : List ℕ) → IsNotBusy (get o Client) → IsNotBusy (get o Server) → Walk (Unit {0}) o (bytes_items s bs)
walk_bytes s [] c d = ended c d
walk_bytes Client (b ∷ bs) c d = loose Client b tt c (walk_bytes Client bs tt d)
walk_bytes Server (b ∷ bs) c d = loose Server b tt d (walk_bytes Server bs c tt)

walk_more : {o : Both Open} {items : List Item} → Walk (Unit {0}) o items → (s : Side) (bs : List ℕ) → Walk (Unit {0}) o (items ++ bytes_items s bs)
walk_more (ended c d) s bs = walk_bytes s bs c d
walk_more (serving j w) s bs = serving j (walk_more w s bs)
walk_more (opening t m b left i e f w) s bs = opening t m b left i e f (walk_more w s bs)
walk_more (middle t m b left i f w) s bs = middle t m b left i f (walk_more w s bs)
walk_more (final t m b i w) s bs = final t m b i (walk_more w s bs)
walk_more (loose t b p i w) s bs = loose t b p i (walk_more w s bs)

obeys_bytes : (state : State) (s : Side) (bs : List ℕ) → Obeys state (bytes_items s bs)
obeys_bytes state s [] = tt
obeys_bytes state s (b ∷ bs) = (tt, obeys_bytes state s bs)

obeys_more : (items : List Item) (state : State) (s : Side) (bs : List ℕ) → Obeys state items → Obeys state (items ++ bytes_items s bs)
obeys_more [] state s bs ob = obeys_bytes state s bs
obeys_more (item ∷ items) state s bs ob = (ob.0, obeys_more items (after state item) s bs ob.1)

pairs_bytes : (s : Side) (bs : List ℕ) → pairs (bytes_items s bs) ≡ side_pairs s bs
pairs_bytes s [] = refl
pairs_bytes s (b ∷ bs) = ap (λ l. record { from = s; byte = b } ∷ l) (pairs_bytes s bs)

pub pairs_more : (items : List Item) (s : Side) (bs : List ℕ) → pairs (items ++ bytes_items s bs) ≡ pairs items ++ side_pairs s bs
pairs_more [] s bs = pairs_bytes s bs
pairs_more (Byte t b ∷ items) s bs = ap (λ l. record { from = t; byte = b } ∷ l) (pairs_more items s bs)
pairs_more (item ∷ items) s bs = pairs_more items s bs

completed_bytes : (s : Side) (bs : List ℕ) → completed_messages (bytes_items s bs) ≡ []
completed_bytes s [] = refl
completed_bytes s (b ∷ bs) = completed_bytes s bs

pub completed_more : (items : List Item) (s : Side) (bs : List ℕ) → completed_messages (items ++ bytes_items s bs) ≡ completed_messages items
completed_more [] s bs = completed_bytes s bs
completed_more (Completes t m ∷ items) s bs = ap (λ l. m ∷ l) (completed_more items s bs)
completed_more (item ∷ items) s bs = completed_more items s bs

-- more bytes of a side come after its rest
pub from_more : (s : Side) (ps : List Pair) (messages : List Message) (client server more : List ℕ) → ((u : Side) → bytes_from u ps ≡ bytes_of u messages ++ of_two u client server) →
    (u : Side) → bytes_from u (ps ++ side_pairs s more) ≡ bytes_of u messages ++ of_two u (with_more s Client more client) (with_more s Server more server)
from_more s ps messages client server more h u = grind (arith, from-append, from-sent_same, append_assoc, from-client_sent, append-nil, from-server_sent)

-- what a reader read, and more bytes of a side, is a run but for the rests with these bytes
pub more_is_run_but : {profile : Profile} (ps : List Pair) (end : Reader) (messages : List Message) (client server : List ℕ) (s : Side) (more : List ℕ) → ArePairs ps → reads (fresh_of profile) ps ≡ Ok end →
    end.messages ≡ messages → end.rests.client.bytes ≡ client → end.rests.server.bytes ≡ server →
    (items : List Item) × IsRunBut profile items (with_more s Client more client) (with_more s Server more server) × (pairs items ≡ ps ++ side_pairs s more) × (completed_messages items ≡ messages)
more_is_run_but {profile} ps end messages client server s more lt e m c d =
    let r = read_is_run_but ps end messages client server lt e m c d in
    let items = r.0 ++ bytes_items s more in
    let has : pairs items ≡ ps ++ side_pairs s more = pairs_more r.0 s more ∙ ap (λ l. l ++ side_pairs s more) r.2 in
    let are : completed_messages items ≡ messages = completed_more r.0 s more ∙ r.3 in
    let w = walk_is_marked (walk_more (marked_is_walk {P = Unit {0}} r.0 client server (λ f. tt) (λ f. tt) r.1.marked) s more) in
    let run : IsRunBut profile items w.0 w.1 = record { marked = w.2; obeys = obeys_more r.0 (start_of profile) s more r.1.obeys } in
    (items, run_as items (ps ++ side_pairs s more) messages w.0 w.1 (with_more s Client more client) (with_more s Server more server) run has are (from_more s ps messages client server more (read_holds profile ps end messages client server lt e m c d)), has, are)
