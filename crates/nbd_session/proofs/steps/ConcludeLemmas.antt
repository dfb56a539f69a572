-- What is decided of a side's bytes once they were taken.
use Rattle.nbd_session.proofs.Common.{le-ltb, nat_lt, ◌≡◌, ℕ, ◌<◌, ◌≤◌, List, [], ◌∷◌, ◌++◌, length, sym, ◌∙◌, ap, subst, Option, Some, None, Bool, append-nil, arith, Result, Ok, Err, OnOk, false, is_err, same_Some, WireFault, OutOfTurn, Side, RequestHead, cookie_of, Core, chunk_cookie, shown_length, Answers, Shows, State, decision_by_count, Decision, reading_by_decision, Bad, IsFilled, More, Whole, Expected, SessionFault, Wire, Monitor, Past, IncomingView, bytes_come, HasHeadLength, IsExpectedOf, IsPlaced, IsRefusedHead, StandsIn, last_fault_by, message_of, payload_length_of, place_answered, request_with, incoming_of, with_expected, IsExpected, decided, is_come_by, Holding, count_at_server, IsExpecting, IsHeadRefused, IsShut, IsTaken, IsWhole, Knows, Stands, knows_by}
use Rattle.nbd_session.proofs.{expecting.{ReplyLemmas.placed_within, KnownLemmas.{expected_bad, expected_more, expected_whole, short_more}}, steps.{HoldingLemmas.{holding_expected, incoming_here, incoming_other, rest_is, same_but}, SettleLemmas.{IsRead, settled_more, shut_wire}, StepLemmas.decided_held}}

-- the request that a reply answers has its exchange
pub stands_in : (state : State) (core : Core) → Shows state core → (x : Expected) → IsPlaced core x → StandsIn state x
stands_in state core s x t = grind (arith, placed_within, shown_length, same_Some)

no_cookie : (x : Bool) (r : RequestHead) (payload : List ℕ) → cookie_of (request_with x r payload) ≡ None
no_cookie x r payload = grind arith

pub answers_at : (state : State) (core : Core) → Shows state core → (x : Expected) (payload : List ℕ) → IsPlaced core x → Answers state (message_of x payload) (place_answered x)
answers_at state core s x payload t = grind (arith, chunk_cookie, no_cookie, same_Some)

module _ (held : Monitor) (s : Side) (x : Expected) (past : Past) (e : IsExpecting held s x past) (payload : List ℕ) (is : payload ≡ (incoming_of held s).payload) where
  -- bytes are missing
  pub still_missing : length payload < payload_length_of x → Stands held past
  still_missing l =
      settled_more held s past e.taken
      (expected_more (decided e.taken.reader s) e.taken.reader.core (incoming_of held s).head (incoming_of held s).payload x e.is (subst (λ p. length p < payload_length_of x) is l))
      (Some x) e.expected_is (e.is, e.within)

  all_come : payload_length_of x ≤ length payload → length (incoming_of held s).payload ≡ payload_length_of x
  all_come l = let same = ap length is in let within = e.within in omega (arith, l, same, within)

  -- the last byte breaks a rule
  pub refused_at_end : payload_length_of x ≤ length payload → (fault : WireFault) → ((core : Core) → Shows held.state core → Some fault ≡ last_fault_by core.phase core x payload) → (c : Option SessionFault) → IsShut (record held { closed = c }) past (Wire held.taken fault)
  refused_at_end l fault bad c =
      shut_wire held s past e.taken fault
      (expected_bad (decided e.taken.reader s) e.taken.reader.core (incoming_of held s).head (incoming_of held s).payload x e.is fault (all_come l)
      (ap (last_fault_by e.taken.reader.core.phase e.taken.reader.core x) (sym is) ∙ sym (bad e.taken.reader.core e.taken.shows))) c

  pub whole_at_end : payload_length_of x ≤ length payload → ((core : Core) → Shows held.state core → None ≡ last_fault_by core.phase core x payload) → IsWhole held s x past
  whole_at_end l good = record {
    expecting = e;
    whole = all_come l;
    no_fault = ap (last_fault_by e.taken.reader.core.phase e.taken.reader.core x) (sym is) ∙ sym (good e.taken.reader.core e.taken.shows);
  }

pub whole_read : (held : Monitor) (s : Side) (x : Expected) (past : Past) (w : IsWhole held s x past) → IsRead held s past w.expecting.taken (Whole (message_of x (incoming_of held s).payload))
whole_read held s x past w = grind (arith, expected_whole)

-- what a head says changes no byte
module _ (held : Monitor) (s : Side) (e : Option Expected) (past : Past) (t : IsTaken held s past) (k : knows_by (decided t.reader s) t.reader.core (incoming_of held s).head (incoming_of held s).payload e) where
  here : incoming_of (with_expected held s e) s ≡ record (incoming_of held s) { expected = e }
  here = incoming_here held s (record (incoming_of held s) { expected = e })

  come : (e : Option Expected) → knows_by (decided t.reader s) t.reader.core (incoming_of held s).head (incoming_of held s).payload e →
      is_come_by (decided t.reader s) t.reader.core (incoming_of held s).head (incoming_of held s).payload e
  come e k = grind (arith, same_Some)

  pub taken_expecting : IsTaken (with_expected held s e) s past
  taken_expecting = grind (arith, holding_expected, same_but, come, here, incoming_other)

pub is_expecting : (held : Monitor) (s : Side) (x : Expected) (past : Past) (t : IsTaken held s past) → Knows held s (Some x) → IsExpecting (with_expected held s (Some x)) s x past
unfolding taken_expecting
is_expecting held s x past t known =
    let k = known past t in
    let here = incoming_here held s (record (incoming_of held s) { expected = Some x }) in
    record {
      taken = taken_expecting held s (Some x) past t k;
      expected_is = ap (λ (v : IncomingView). v.expected) here;
      is = subst (λ (v : IncomingView). IsExpected (decided t.reader s) t.reader.core v.head x) (sym here) k.0;
      within = subst (λ (v : IncomingView). length v.payload ≤ payload_length_of x) (sym here) k.1;
    }

-- the head is not whole
pub head_missing : (held : Monitor) (s : Side) (past : Past) (t : IsTaken held s past) → Knows held s None → Stands (with_expected held s None) past
unfolding taken_expecting
head_missing held s past t known =
    let k = known past t in
    let here = incoming_here held s (record (incoming_of held s) { expected = None }) in
    let bare : (incoming_of held s).head ++ (incoming_of held s).payload ≡ (incoming_of held s).head = ap (λ l. (incoming_of held s).head ++ l) k.0 ∙ append-nil (incoming_of held s).head in
    settled_more (with_expected held s None) s past (taken_expecting held s None past t k)
    (subst (λ bs. reading_by_decision (decided t.reader s bs) bs ≡ More) (sym (ap bytes_come here ∙ bare)) (short_more (decided t.reader s (incoming_of held s).head) k.1 (incoming_of held s).head k.2 k.3))
    None (ap (λ (v : IncomingView). v.expected) here)
    (subst (λ (v : IncomingView). knows_by (decided t.reader s) t.reader.core v.head v.payload None) (sym here) k)

-- it is refused
pub head_shut : (held : Monitor) (s : Side) (past : Past) (t : IsTaken held s past) (fault : WireFault) → IsHeadRefused held s fault → (c : Option SessionFault) → IsShut (record held { closed = c }) past (Wire held.taken fault)
head_shut held s past t fault refused c =
    let r = refused past t in
    let bare : (incoming_of held s).head ++ (incoming_of held s).payload ≡ (incoming_of held s).head = ap (λ l. (incoming_of held s).head ++ l) r.0 ∙ append-nil (incoming_of held s).head in
    shut_wire held s past t fault (subst (λ bs. reading_by_decision (decided t.reader s bs) bs ≡ Bad fault) (sym bare) r.1) c

-- a head that is to be decided
module _ (held : Monitor) (s : Side) (head : List ℕ) (is : head ≡ (incoming_of held s).head) (none : (incoming_of held s).expected ≡ None) where
  bare_come : {past : Past} (t : IsTaken held s past) → ((incoming_of held s).payload ≡ []) × ((d : Decision) → decided t.reader s (incoming_of held s).head ≡ Some d → length (incoming_of held s).head ≤ d.head_length)
  bare_come t = subst (is_come_by (decided t.reader s) t.reader.core (incoming_of held s).head (incoming_of held s).payload) none t.come

  decided_so : {past : Past} (t : IsTaken held s past) (bytes : List ℕ) → decided t.reader s bytes ≡ decision_by_count (count_at_server s t.before.server t.before.counted (length t.reader.core.entries)) t.reader.core s bytes
  decided_so t bytes = decided_held t.before t.reader s t.read_to bytes

  counted_so : {past : Past} (t : IsTaken held s past) (bytes : List ℕ) → decided t.reader s bytes ≡ decision_by_count held.counted t.reader.core s bytes
  counted_so t bytes = decided_so t bytes ∙ ap (λ n. decision_by_count n t.reader.core s bytes) (sym (ap (λ (h : Holding). h.counted) t.holding_is))

  pub turn_refused : ((core : Core) (counted : ℕ) → Shows held.state core → decision_by_count counted core s head ≡ None) → IsHeadRefused held s OutOfTurn
  turn_refused bad past t = grind (arith, bare_come t, decided_so t)

  module _ (n : ℕ) (known : HasHeadLength held.state s head n) where
    length_decided : {past : Past} (t : IsTaken held s past) → (d : Decision) × (decided t.reader s (incoming_of held s).head ≡ Some d) × (d.head_length ≡ n)
    length_decided t =
        let d = known t.reader.core (count_at_server s t.before.server t.before.counted (length t.reader.core.entries)) t.shows in
        (d.0, decided_so t (incoming_of held s).head ∙ subst (λ h. decision_by_count (count_at_server s t.before.server t.before.counted (length t.reader.core.entries)) t.reader.core s h ≡ Some d.0) is d.1, d.2)

    pub knows_short : length head < n → Knows held s None
    knows_short l past t =
        let d = length_decided t in
        let same = ap length is in
        let len = d.2 in
        ((bare_come t).0, d.0, d.1, omega (arith, l, same, len))

    pub head_whole : (past : Past) (t : IsTaken held s past) → n ≤ length head → length head ≡ n
    head_whole past t l =
        let d = length_decided t in
        let low : length (incoming_of held s).head ≤ d.0.head_length = (bare_come t).1 d.0 d.1 in
        let same = ap length is in
        let len = d.2 in
        omega (arith, l, same, len, low)

  pub head_refused : (fault : WireFault) → ((core : Core) → Shows held.state core → IsRefusedHead held.counted core s head fault) → IsHeadRefused held s fault
  head_refused fault bad past t = grind (arith, bare_come t, counted_so t, nat_lt, le-ltb)

  filled_right : (xs ys : List ℕ) → IsFilled ys → IsFilled (xs ++ ys)
  filled_right [] ys f = f
  filled_right (x ∷ xs) ys f = tt

  head_filled : {past : Past} (t : IsTaken held s past) → IsFilled (incoming_of held s).head
  head_filled t = grind (arith, bare_come t, append-nil, rest_is, filled_right)

  pub knows_expected : (x : Expected) → ((core : Core) → Shows held.state core → IsExpectedOf held.counted core s head x) → ((core : Core) → Shows held.state core → IsPlaced core x) → Knows held s (Some x)
  knows_expected x expected placed past t = grind (arith, head_filled t, counted_so t, bare_come t)

-- a head that was decided before
pub knows_again : (held : Monitor) (s : Side) (x : Expected) → (incoming_of held s).expected ≡ Some x → Knows held s (Some x)
knows_again held s x is past t = subst (is_come_by (decided t.reader s) t.reader.core (incoming_of held s).head (incoming_of held s).payload) is t.come

-- what is said of one kind of a result, where it is of that kind
pub where_ok : {A E : Type 0} (P : Type 0) (r : Result A E) → false ≡ is_err r → OnOk r P → P
where_ok P (Ok a) e h = h
where_ok P (Err x) e h = absurd (cc)
