-- What a refusal says of the runs with a session's bytes.
use Rattle.nbd_session.proofs.Common.{◌⊎◌, ◌≡◌, ℕ, ◌+◌, ◌<◌, ◌≤◌, List, [], ◌∷◌, ◌++◌, length, refl, sym, ◌∙◌, ap, subst, arith, append_assoc, append-nil, length-append, inl, inr, Option, Some, None, Result, Ok, Err, Profile, Client, Server, Side, Message, Item, Completes, completed_messages, pairs, Pair, ArePairs, side_pairs, bytes_of, bytes_from, CompletesExactlyOf, IsOfNoRunOf, WireFault, Unfinished, AreHeld, awaited_length, IsFilled, Reader, fresh_of, get, old_of, on_ok, reads, step, IsRead, marks_law, SessionFault, Memory, Wire, Monitor, Past, Follows, past_of, IsUnderWayOf, read_no_place, EndsIn, IsAcceptedOf, IsComplete, IsOpenEndOf, IsRefusalOf, IsWireFaultOf, Refuses, IsCompleteBy, HasRunOf, IsOfRun, SessionView, bytes_taken, end_by, fault_at_end, pairs_of, open_end_fault, Holding, IsReadTo, with_bytes, IsKeptBy, Stands, bytes_come, reads_below, extended, reads-append, with_rest, exact, none_refused, AreBytesOf, run_bytes}
use Rattle.nbd_session.proofs.{judge.PieceLemmas.kept_run, pushed.{OpenByteLemmas.{loose_is, read_holds}, PushLemmas.sent-append}, steps.StepLemmas.held_of}
use Rattle.nbd_wire.specs.Prelude.{within, IsPlaceOf}

-- the last of some bytes, and those before it
record HasLast (bytes : List ℕ) : Type 0 where
  before : List ℕ
  last : ℕ
  parts : bytes ≡ before ++ last ∷ []

last_of : (b : ℕ) (bytes : List ℕ) → HasLast (b ∷ bytes)
last_of b [] = record { before = []; last = b; parts = refl }
last_of b (c ∷ bytes) = let h : HasLast (c ∷ bytes) = last_of c bytes in record { before = b ∷ h.before; last = h.last; parts = ap (λ l. b ∷ l) h.parts }

some_last : (bytes : List ℕ) → IsFilled bytes → HasLast bytes
some_last bytes f = grind (arith, last_of)

-- what the reader makes of bytes that go on
record GoesTo (reader : Reader) (s : Side) (bytes : List ℕ) : Type 0 where
  next : Reader
  reads_it : reads reader (side_pairs s bytes) ≡ Ok next
  messages_are : next.messages ≡ reader.messages

goes_to : (reader : Reader) (s : Side) (bytes : List ℕ) → AreHeld reader →
    length ((get reader.rests s).bytes ++ bytes) < awaited_length (old_of reader.core (get reader.rests s)) reader.core s (get reader.rests s).bytes → GoesTo reader s bytes
goes_to reader s [] held l = record { next = reader; reads_it = refl; messages_are = refl }
goes_to reader s (b ∷ bytes) held l = record {
  next = with_rest reader s (extended reader.core (get reader.rests s) (b ∷ bytes));
  reads_it = reads_below reader s (b ∷ bytes) held tt l;
  messages_are = refl;
}

step_of : (r : Result Reader WireFault) (fault : WireFault) → on_ok r (λ next. Ok next) ≡ Err fault → r ≡ Err fault
step_of r fault e = grind arith

are_prefix : (ps qs : List Pair) → ArePairs (ps ++ qs) → ArePairs ps
are_prefix [] qs a = tt
are_prefix (p ∷ ps) qs a = (a.0, are_prefix ps qs a.1)

-- bytes of a side that were taken and refused
module _ (h : Holding) (reader : Reader) (r : IsReadTo h reader) (s : Side) (more : List ℕ) (entries : ℕ) (filled : IsFilled more)
    (are_pairs : ArePairs (with_bytes h s more entries).past.pairs)
    (up_to : length ((get reader.rests s).bytes ++ more) ≤ awaited_length (old_of reader.core (get reader.rests s)) reader.core s (get reader.rests s).bytes) where
  pub stopped : (fault : WireFault) → reads (fresh_of h.profile) (with_bytes h s more entries).past.pairs ≡ Err fault → IsPlaceOf h.profile (with_bytes h s more entries).past.pairs h.past.messages fault
  stopped fault e =
      let l : HasLast more = some_last more filled in
      let last : Pair = record { from = s; byte = l.last } in
      let longer : length ((get reader.rests s).bytes ++ more) ≡ length ((get reader.rests s).bytes ++ l.before) + 1 =
      ap (λ bs. length ((get reader.rests s).bytes ++ bs)) l.parts ∙ ap length (sym (append_assoc (get reader.rests s).bytes l.before (l.last ∷ []))) ∙ length-append ((get reader.rests s).bytes ++ l.before) (l.last ∷ []) in
      let g : GoesTo reader s l.before = goes_to reader s l.before (held_of h reader r) (omega (arith, longer, up_to)) in
      let prefix : List Pair = h.past.pairs ++ side_pairs s l.before in
      let parts : h.past.pairs ++ side_pairs s more ≡ prefix ++ last ∷ [] =
      ap (λ bs. h.past.pairs ++ side_pairs s bs) l.parts
      ∙ ap (λ ps. h.past.pairs ++ ps) (sent-append s l.before (l.last ∷ []))
      ∙ sym (append_assoc h.past.pairs (side_pairs s l.before) (last ∷ [])) in
      let prefix_is : reads (fresh_of h.profile) prefix ≡ Ok g.next =
      reads-append (fresh_of h.profile) h.past.pairs (side_pairs s l.before) ∙ ap (λ o. on_ok o (λ next. reads next (side_pairs s l.before))) r.reads_it ∙ g.reads_it in
      let refused : on_ok (step g.next last.from last.byte) (λ next. Ok next) ≡ Err fault =
      sym (ap (λ o. on_ok o (λ next. reads next (last ∷ []))) prefix_is)
      ∙ sym (reads-append (fresh_of h.profile) prefix (last ∷ []))
      ∙ ap (reads (fresh_of h.profile)) (sym parts)
      ∙ e in
      record {
        are_pairs = are_pairs;
        prefix = prefix;
        last = last;
        parts = parts;
        before = record { are_pairs = are_prefix prefix (last ∷ []) (subst ArePairs parts are_pairs); end = g.next; reads_it = prefix_is; has_messages = g.messages_are ∙ r.messages_are };
        refused = step_of (step g.next last.from last.byte) fault refused;
      }

-- what was read without a fault holds every message of each run that begins so
pub completes_exactly : {profile : Profile} (ps : List Pair) (end : Reader) (messages : List Message) → ArePairs ps → reads (fresh_of profile) ps ≡ Ok end → end.messages ≡ messages → CompletesExactlyOf profile ps messages
completes_exactly {profile} ps end messages lt e are items run begins =
    let r : IsRead (fresh_of profile) ps (within (length ps) items) = marks_law exact items run ps begins.0 lt begins.1 in
    let q : Ok r.end ≡ Ok end = sym r.reads_it ∙ e in
    let same : r.end ≡ end = cc in
    sym r.messages_are ∙ ap (λ (x : Reader). x.messages) same ∙ are

-- all but the last
but_last : (ps qs : List Pair) (p q : Pair) → ps ++ p ∷ [] ≡ qs ++ q ∷ [] → ps ≡ qs
but_last [] [] p q e = refl
but_last [] (x ∷ []) p q e = absurd (cc)
but_last (x ∷ []) [] p q e = absurd (cc)
but_last (x ∷ ps) (y ∷ qs) p q e =
    let same : x ≡ y = cc in
    let rest : ps ++ p ∷ [] ≡ qs ++ q ∷ [] = cc in
    ap (λ z. z ∷ ps) same ∙ ap (λ l. y ∷ l) (but_last ps qs p q rest)
but_last ps qs p q e = absurd (cc)

-- where these bytes are refused at their last one, no run begins with them, and exactly these messages complete before it
pub refusal : {profile : Profile} (ps : List Pair) (messages : List Message) (fault : WireFault) → IsPlaceOf profile ps messages fault → IsRefusalOf profile ps messages fault
refusal {profile} ps messages fault st = record {
  place = st;
  none = λ items run begins. none_refused items run ps begins.0 st.are_pairs begins.1 fault refused;
  before = λ prefix last parts. subst (λ ps. CompletesExactlyOf profile ps messages) (but_last st.prefix prefix st.last last (sym st.parts ∙ parts))
      (completes_exactly st.prefix st.before.end messages st.before.are_pairs st.before.reads_it st.before.has_messages);
}
  where
    refused : reads (fresh_of profile) ps ≡ Err fault
    refused = grind (arith, reads-append)

-- what was taken without a fault
pub stands_accepted : (held : Monitor) (past : Past) → Stands held past → IsAcceptedOf held.state.profile past.pairs past.messages
stands_accepted held past st = record {
  under_way = record { are_pairs = st.read_to.are_pairs; end = st.reader; reads_it = st.read_to.reads_it; has_messages = st.read_to.messages_are };
  placeless = λ prefix rest messages fault parts. read_no_place prefix rest st.reader (ap (reads (fresh_of held.state.profile)) parts ∙ st.read_to.reads_it) messages fault;
  all = completes_exactly past.pairs st.reader past.messages st.read_to.are_pairs st.read_to.reads_it st.read_to.messages_are;
}

within_all : (items : List Item) → within (length (pairs items)) items ≡ completed_messages items
within_all [] = refl
within_all (Completes s m ∷ items) = ap (λ l. m ∷ l) (within_all items)
within_all (item ∷ items) = within_all items

-- the open bytes where reading stands are those that a run with its bytes and messages leaves
opens : {profile : Profile} (ps : List Pair) (messages : List Message) (client server : List ℕ) → (u : IsUnderWayOf profile ps messages) → HasRunOf profile ps messages client server → (u.end.rests.client.bytes ≡ client) × (u.end.rests.server.bytes ≡ server)
opens {profile} ps messages client server u has =
    let there : AreBytesOf has.items client server = run_bytes has.items client server has.is_run in
    let holds = read_holds profile ps u.end messages u.end.rests.client.bytes u.end.rests.server.bytes u.are_pairs u.reads_it u.has_messages refl refl in
    (sym (loose_is Client has.items ps messages client _ has.has_pairs has.has_messages there.of_client (holds Client)), sym (loose_is Server has.items ps messages server _ has.has_pairs has.has_messages there.of_server (holds Server)))

some_open : {profile : Profile} (ps : List Pair) (messages : List Message) (client server : List ℕ) → (u : IsUnderWayOf profile ps messages) → HasRunOf profile ps messages client server → ((client ≡ []) × (server ≡ []) → ⊥) → (u.end.rests.client.bytes ≡ [] → ⊥) ⊎ (u.end.rests.server.bytes ≡ [] → ⊥)
some_open ps messages [] [] u has some = absurd (some (refl, refl))
some_open ps messages (b ∷ client) server u has some = inl (λ e. (let q : b ∷ client ≡ [] = sym (opens ps messages (b ∷ client) server u has).0 ∙ e in cc))
some_open ps messages [] (b ∷ server) u has some = inr (λ e. (let q : b ∷ server ≡ [] = sym (opens ps messages [] (b ∷ server) u has).1 ∙ e in cc))

-- where bytes that were taken without a fault stand after the messages of a run, no run has exactly the bytes
pub open_end_of : {profile : Profile} (ps : List Pair) (messages : List Message) (client server : List ℕ) → HasRunOf profile ps messages client server → IsAcceptedOf profile ps messages → ((client ≡ []) × (server ≡ []) → ⊥) → IsOpenEndOf profile ps messages
open_end_of {profile} ps messages client server has accepted some = record { accepted = accepted; leaves_open = some_open ps messages client server accepted.under_way has some; none = none }
  where
    none : IsOfNoRunOf profile ps
    none items run is =
        let are : completed_messages items ≡ messages = sym (within_all items) ∙ ap (λ n. within n items) (ap length is) ∙ accepted.all items run ([], is ∙ sym (append-nil ps)) in
        let here : AreBytesOf items [] [] = run_bytes items [] [] run in
        let there : AreBytesOf has.items client server = run_bytes has.items client server has.is_run in
        some (
          loose_is Client has.items ps messages client [] has.has_pairs has.has_messages there.of_client (ap (bytes_from Client) (sym is) ∙ here.of_client ∙ ap (λ ms. bytes_of Client ms ++ []) are),
          loose_is Server has.items ps messages server [] has.has_pairs has.has_messages there.of_server (ap (bytes_from Server) (sym is) ∙ here.of_server ∙ ap (λ ms. bytes_of Server ms ++ []) are),
        )

-- what a session that is followed was refused for, or that it was not
pub is_complete : (held : Monitor) (r : SessionView) → Follows held r → IsComplete r
is_complete held r f = subst (λ c. IsCompleteBy c r) f.closed_is (go held.closed f.kept)
  where
    go : (c : Option SessionFault) → IsKeptBy c held (past_of r) → IsCompleteBy c r
    go None st = subst (λ p. IsAcceptedOf p (pairs_of r) r.messages) f.profile_is (stands_accepted held (past_of r) st)
    go (Some Memory) shut = tt
    go (Some (Wire at fault)) shut = (
      shut.cause.0 ∙ shut.taken_is,
      subst (λ p. IsRefusalOf p (pairs_of r) r.messages fault) f.profile_is (refusal (pairs_of r) r.messages fault shut.cause.1),
    )

-- some run has its bytes and messages
pub is_of_run : (held : Monitor) (r : SessionView) → Follows held r → IsOfRun r
is_of_run held r f =
    subst (λ p. HasRunOf p (pairs_of r) r.messages r.client r.server) f.profile_is
    (subst (λ c. HasRunOf held.state.profile (pairs_of r) r.messages c r.server) f.client_is
    (subst (λ v. HasRunOf held.state.profile (pairs_of r) r.messages (bytes_come held.client) v) f.server_is (kept_run held (past_of r) f.kept)))

some_unfinished : (client server : List ℕ) (at place : ℕ) (fault : WireFault) → open_end_fault client server at ≡ Some (Wire place fault) → (Unfinished ≡ fault) × (at ≡ place) × ((client ≡ []) × (server ≡ []) → ⊥)
some_unfinished [] [] at place fault e = absurd (let q : None ≡ Some (Wire place fault) = e in cc)
some_unfinished (b ∷ client) server at place fault e = ((cc), (cc), λ none. (let q : b ∷ client ≡ [] = none.0 in cc))
some_unfinished [] (b ∷ server) at place fault e = ((cc), (cc), λ none. (let q : b ∷ server ≡ [] = none.1 in cc))

unfinished_end : (r : SessionView) → IsOfRun r → IsAcceptedOf r.profile (pairs_of r) r.messages → (fault : SessionFault) → open_end_fault r.client r.server (bytes_taken r) ≡ Some fault → EndsIn r fault
unfinished_end r run accepted Memory e = tt
unfinished_end r run accepted (Wire place fault) e =
    let is = some_unfinished r.client r.server (bytes_taken r) place fault e in
    inr (sym is.0, sym is.1, open_end_of (pairs_of r) r.messages r.client r.server run accepted is.2)

-- why a session ends in a fault
pub ends : (held : Monitor) (r : SessionView) → Follows held r → (fault : SessionFault) → fault_at_end r ≡ Some fault → EndsIn r fault
ends held r f fault e = go r.closed refl (is_complete held r f)
  where
    refused : (other : SessionFault) → Refuses r other → EndsIn r other
    refused Memory why = tt
    refused (Wire at fault) why = inl (pairs_of r, [], append-nil (pairs_of r), why.0, why.1)

    go : (c : Option SessionFault) → r.closed ≡ c → IsCompleteBy c r → EndsIn r fault
    go None unclosed accepted = unfinished_end r (is_of_run held r f) accepted fault (sym (ap (λ c. end_by c (open_end_fault r.client r.server (bytes_taken r))) unclosed) ∙ e)
    go (Some other) closed why =
        let now : fault_at_end r ≡ Some other = ap (λ c. end_by c (open_end_fault r.client r.server (bytes_taken r))) closed in
        let is : other ≡ fault = (let q : Some other ≡ Some fault = sym now ∙ e in cc) in
        subst (EndsIn r) is (refused other why)

-- where it ends in none it stands, and no message is open
pub ends_well : (held : Monitor) (r : SessionView) → Follows held r → fault_at_end r ≡ None → Stands held (past_of r) × (r.client ≡ []) × (r.server ≡ [])
ends_well held r f e = go held.closed refl f.kept
  where
    none_open : (client server : List ℕ) (at : ℕ) → open_end_fault client server at ≡ None → (client ≡ []) × (server ≡ [])
    none_open [] [] at e = (refl, refl)
    none_open (b ∷ client) server at e = absurd (cc)
    none_open [] (b ∷ server) at e = absurd (cc)

    go : (c : Option SessionFault) → held.closed ≡ c → IsKeptBy c held (past_of r) → Stands held (past_of r) × (r.client ≡ []) × (r.server ≡ [])
    go None unclosed st =
        let parts = none_open r.client r.server (bytes_taken r) (sym (ap (λ c. end_by c (open_end_fault r.client r.server (bytes_taken r))) (sym f.closed_is ∙ unclosed)) ∙ e) in
        (st, parts.0, parts.1)
    go (Some fault) closed shut =
        let now : fault_at_end r ≡ Some fault = ap (λ c. end_by c (open_end_fault r.client r.server (bytes_taken r))) (sym f.closed_is ∙ closed) in
        absurd (let q : None ≡ Some fault = sym e ∙ now in cc)

-- a capture with a wire fault has no run
pub no_run_of : {profile : Profile} (capture : List Pair) (messages : List Message) (at : ℕ) (fault : WireFault) → IsWireFaultOf profile capture messages at fault → IsOfNoRunOf profile capture
no_run_of capture messages at fault e = grind arith
