-- What is known of a side's bytes stays, where the other side's messages complete meanwhile.
use Rattle.nbd_session.proofs.Common.{◌≡◌, ℕ, suc, ◌+◌, ◌<◌, ◌≤◌, List, [], ◌∷◌, ◌++◌, length, refl, sym, ◌∙◌, ap, subst, inl, inr, Option, Some, None, zero, Bool, true, false, arith, add-one, append-nil, length-append, lt-ltb, same_Some, Message, Side, Client, Server, Exporting, Operation, number_at, Core, Transmission, operation, awaited_length_by, awaited_length, Decision, operation_of, reply, reply_in, request_by, decision, request_unless, IsFilled, More, Rest, old_of, simple_fault, decision_of, IsAppended, Later-appended, Later-disconnected, Later-extended, Later-transmission, Later-turn, target-append, kept_later, turn_of_reading, IsDeciding, IsExtendedOrNot, bytes_are_begun, deciding, entry-append, extended_or_not, is_chunk_reply, is_extended_reply, is_no_extended, is_no_reply, is_simple_reply, long_reply, short_reply, Later, Later-trans, at_once, none_held, old-empty, old-filled, some_held, RequestHead, Expected, IsPlaced, chunk_fault_to, expected_decision, last_fault_by, message_of, payload_length_of, IncomingView, bytes_come, incoming_with, incoming_with_by, nothing_come, IsCome, IsExpected, IsKnown, IsShort, is_known_by}
use Rattle.nbd_session.proofs.expecting.{KnownLemmas.expected_awaited, ReplyLemmas.placed_within}
use Rattle.nbd_wire.specs.declared.message.Message.TheVariants as messages
use Rattle.nbd_laws.proofs.{judge.SteadyLemmas.IsBegun, reading.ReaderLemmas.Held}
use Rattle.nbd_session.specs.declared.expected.Expected.TheVariants as expectations

-- where something is decided of a rest, it goes on as it began
pub deciding_rest : {core : Core} {s : Side} {rest : Rest} → Held core s rest → (bytes : List ℕ) (d : Decision) → decision core.phase (old_of core rest) core s bytes ≡ Some d →
    IsDeciding s (old_of core rest) × Later s (old_of core rest) core
deciding_rest {core} {s} {rest} (none_held r e) bytes d is = grind (arith, old-empty, deciding, at_once, old-filled, decision_of, kept_later)
deciding_rest {core} {s} {rest} (some_held r now f k m l) bytes d is =
    subst (λ c. IsDeciding s c × Later s c core) (sym (old-filled core rest f)) (decision_of k m, Later-trans (kept_later k) l)

-- a head that is not whole
pub short_stays : (s : Side) (old core next : Core) (head : List ℕ) → IsDeciding s old → Later s old core → Later s core next → IsShort (decision core.phase old core s) head → IsShort (decision next.phase old next s) head
short_stays s old core next head D l k short d is =
    let here : length head < (D.F core head).head_length = short (D.F core head) (D.decides core l head) in
    let below : (D.F next head).head_length ≡ (D.F core head).head_length =
    subst (λ bs. (D.F next bs).head_length ≡ (D.F core head).head_length) (append-nil head) ((D.steady core l).below next k head [] (omega (arith, here, length-append head []))) in
    let same : D.F next head ≡ d = same_Some _ _ (sym (D.decides next (Later-trans l k) head) ∙ is) in
    let len : (D.F next head).head_length ≡ d.head_length = ap (λ (x : Decision). x.head_length) same in
    omega (arith, here, below, len)

-- more bytes of it lie within what was awaited
pub taken_within : (s : Side) (old core : Core) (head more : List ℕ) (d : Decision) → IsDeciding s old → Later s old core → IsShort (decision core.phase old core s) head →
    length (head ++ more) ≤ awaited_length old core s head → decision core.phase old core s (head ++ more) ≡ Some d → length (head ++ more) ≤ d.head_length
taken_within s old core head more d D l short up is = grind (arith, lt-ltb, at_once, same_Some)

-- requests were added, and the request of a number stays
operation_stays : (core next : Core) → IsAppended core next → (place : ℕ) → place < length core.entries → operation (place + 1) next.entries ≡ operation (place + 1) core.entries
operation_stays core next a place l =
    let o = within core.entries place l in
    ap (λ n. operation n next.entries) (add-one place) ∙ ap (operation (suc place)) a.entries_are ∙ entry-append (suc place) core.entries a.more o.0 o.1 ∙ sym o.1 ∙ sym (ap (λ n. operation n core.entries) (add-one place))
  where
    within : (es : List Operation) (k : ℕ) → k < length es → (e : Operation) × (operation (suc k) es ≡ Some e)
    within [] k l = absurd (omega (arith, l))
    within (e ∷ es) zero l = (e, refl)
    within (e ∷ es) (suc k) l = within es k (omega (arith, l))

placed_stays : (core next : Core) → IsAppended core next → (x : Expected) → IsPlaced core x → IsPlaced next x
placed_stays core next a x t = grind (arith, target-append)

-- the command and the cookie of a request
abbrev sent : Message → Option (ℕ × ℕ)
sent (messages.Request flags command cookie offset len payload) = Some (command, cookie)
sent (messages.ExtendedRequest flags command cookie offset len payload) = Some (command, cookie)
sent m = None

request_only : (x : Expected) (payload : List ℕ) (s : ℕ × ℕ) → sent (message_of x payload) ≡ Some s → (r : RequestHead) × (x ≡ expectations.Request r)
request_only x payload s e = grind arith

-- what is decided of a request is so of a request alone
module _ (core : Core) (bytes payload : List ℕ) (h : ℕ) (x : Expected) (e : request_by core.extended core bytes ≡ expected_decision core x h payload) where
  sent_here : sent (message_of x payload) ≡ Some (number_at 6 2 bytes, number_at 8 8 bytes)
  sent_here = grind arith

  is_request : (r : RequestHead) × (x ≡ expectations.Request r)
  is_request = request_only x payload _ sent_here

  fields_are : ◌≡◌ {A = ℕ × ℕ} (number_at 6 2 bytes, number_at 8 8 bytes) (is_request.0.command, is_request.0.cookie)
  fields_are = grind (arith, same_Some, sent_here)

  -- a request answers no request
  placed_request : (next : Core) → IsPlaced next x
  placed_request next = subst (IsPlaced next) (sym is_request.1) tt

module _ (export : Exporting) (old core next : Core) (bytes : List ℕ) (a : IsAppended core next) where
  abbrev cookie : ℕ
  cookie = number_at 8 8 bytes

  same_operation : (e : Operation) → operation_of old core cookie ≡ Some e → operation_of old next cookie ≡ operation_of old core cookie
  same_operation e h = grind (arith, entry-append)

  found_simple : (o : Option Operation) (error : ℕ) → simple_fault core.structured o error ≡ None → (e : Operation) × (o ≡ Some e)
  found_simple o error h = grind arith

  -- what is decided of a reply without a fault in its head does not change as requests are added
  short_reply_stays : IsBegun bytes → (short_reply export old core bytes).head_fault ≡ None → short_reply export old next bytes ≡ short_reply export old core bytes
  short_reply_stays e clean = grind (arith, is_chunk_reply, same_operation, is_simple_reply, found_simple, is_no_reply)

  long_reply_stays : IsExtendedOrNot bytes → (long_reply export old core bytes).head_fault ≡ None → long_reply export old next bytes ≡ long_reply export old core bytes
  long_reply_stays e clean = grind (arith, is_extended_reply, same_operation, is_no_extended)

  reply_stays : (reply export old core bytes).head_fault ≡ None → reply export old next bytes ≡ reply export old core bytes
  reply_stays clean = grind (arith, short_reply_stays, bytes_are_begun, long_reply_stays, extended_or_not)

-- a reply is a message of its kind
abbrev is_reply : Message → Bool
is_reply (messages.Simple error cookie payload) = true
is_reply (messages.Chunk flags kind cookie payload) = true
is_reply (messages.ExtendedChunk flags kind cookie offset payload) = true
is_reply m = false

reply_is : (x : Bool) (export : Exporting) (core : Core) (o : Option Operation) (bytes : List ℕ) → is_reply ((reply_in x export core o bytes).message) ≡ true
reply_is x export core o bytes = grind arith

-- the fault at a reply's last byte
last_stays : (core next : Core) (export : Exporting) → IsAppended core next → (x : Expected) (payload : List ℕ) → IsPlaced core x → is_reply (message_of x payload) ≡ true →
    last_fault_by (Transmission export) core x payload ≡ last_fault_by (Transmission export) next x payload
last_stays core next export a (expectations.Chunk head place) payload l is = (λ i. chunk_fault_to (sym a.profile_is i) export (sym (operation_stays core next a place (placed_within core.entries head.cookie place l)) i) head payload)
last_stays core next export a x payload l is = grind (arith, operation_stays, placed_within)

module _ (old core next : Core) (export : Exporting) (before : core.phase ≡ Transmission export) (after : next.phase ≡ Transmission export) (head : List ℕ) (x : Expected) where
  expected_reply : IsAppended core next → IsExpected (decision core.phase old core Server) core head x → IsExpected (decision next.phase old next Server) next head x
  expected_reply a known = record { filled = known.filled; placed = placed_stays core next a x known.placed; is = is }
    where
      is : (payload : List ℕ) → decision next.phase old next Server (head ++ payload) ≡ Some (expected_decision next x (length head) payload)
      is payload =
          let b : List ℕ = head ++ payload in
          let e : reply export old core b ≡ expected_decision core x (length head) payload =
          same_Some _ _ (sym (ap (λ p. decision p old core Server b) before) ∙ known.is payload) in
          let kind : is_reply (message_of x payload) ≡ true = sym (ap (λ (d : Decision). is_reply d.message) e) ∙ reply_is core.extended export core (operation_of old core (number_at 8 8 b)) b in
          let last : last_fault_by core.phase core x payload ≡ last_fault_by next.phase next x payload =
          ap (λ p. last_fault_by p core x payload) before ∙ last_stays core next export a x payload known.placed kind ∙ sym (ap (λ p. last_fault_by p next x payload) after) in
          ap (λ p. decision p old next Server b) after
          ∙ ap Some (reply_stays export old core next b a (ap (λ (d : Decision). d.head_fault) e) ∙ e
          ∙ (λ i. record { head_length = length head; head_fault = None; payload_length = payload_length_of x; last_fault = last i; message = message_of x payload }))

  expected_request : next.disconnected ≡ core.disconnected → next.extended ≡ core.extended → IsPlaced next x → IsExpected (decision core.phase old core Client) core head x → IsExpected (decision next.phase old next Client) next head x
  expected_request disconnected extended placed known = grind (arith, same_Some, is_request, fields_are)

by_side : (s : Side) (old core next : Core) (export : Exporting) (head : List ℕ) (x : Expected) → Later s core next → core.phase ≡ Transmission export → next.phase ≡ Transmission export →
    IsExpected (decision core.phase old core s) core head x → IsExpected (decision next.phase old next s) next head x
by_side Server old core next export head x l before after known = expected_reply old core next export before after head x (Later-appended l export before) known
by_side Client old core next export head x l before after known =
    expected_request old core next export before after head x (Later-disconnected l) (Later-extended l export before) (go core.disconnected (sym (ap (λ p. decision p old core Client (head ++ [])) before) ∙ known.is [])) known
  where
    go : (b : Bool) → request_unless b core (head ++ []) ≡ Some (expected_decision core x (length head) []) → IsPlaced next x
    go true e = absurd (cc)
    go false e = placed_request core (head ++ []) [] (length head) x (same_Some _ _ e) next

-- what a whole head says stays
pub expected_stays : {core : Core} {s : Side} {rest : Rest} → Held core s rest → IsFilled rest.bytes → (next : Core) → Later s core next → (head : List ℕ) (x : Expected) →
    IsExpected (decision core.phase (old_of core rest) core s) core head x → IsExpected (decision next.phase (old_of next rest) next s) next head x
expected_stays {core} {s} {rest} (none_held r e) f next l head x known = absurd (subst IsFilled e f)
expected_stays {core} {s} {rest} (some_held r now f k m j) filled next l head x known =
    let old : old_of core rest ≡ rest.since = old-filled core rest f in
    let here : IsExpected (decision core.phase rest.since core s) core head x = subst (λ c. IsExpected (decision core.phase c core s) core head x) old known in
    let later : Later s rest.since core = Later-trans (kept_later k) j in
    subst (λ c. IsExpected (decision next.phase c next s) next head x) (sym (old-filled next rest f))
    (elim (turn_of_reading More k m (λ q. (cc))) [
      | inl t ↦ (let same : core ≡ next = sym (Later-turn later t) ∙ Later-turn (Later-trans later l) t in
          subst (λ (c : Core). IsExpected (decision c.phase rest.since c s) c head x) same here)
      | inr (export, t) ↦ (let before : core.phase ≡ Transmission export = Later-transmission later export t in
          by_side s rest.since core next export head x l before (Later-transmission l export before) here)
    ])

no_head : (head payload : List ℕ) → head ++ payload ≡ [] → head ≡ []
no_head [] payload e = refl
no_head (b ∷ head) payload e = absurd (cc)

filled_with : (head payload : List ℕ) → IsFilled head → IsFilled (head ++ payload)
filled_with head payload f = grind arith

short_held : {core : Core} {s : Side} {rest : Rest} → Held core s rest → (next : Core) → Later s core next → (head payload : List ℕ) → head ++ payload ≡ rest.bytes →
    IsShort (decision core.phase (old_of core rest) core s) head → IsShort (decision next.phase (old_of next rest) next s) head
short_held {core} {s} {rest} (none_held r e) next l head payload is short = grind (arith, no_head, old-empty, old-filled, short_stays, decision_of, kept_later, deciding, at_once, same_Some)
short_held {core} {s} {rest} (some_held r now f k m j) next l head payload is short =
    subst (λ c. IsShort (decision next.phase c next s) head) (sym (old-filled next rest f))
    (short_stays s rest.since core next head (decision_of k m) (Later-trans (kept_later k) j) l (subst (λ c. IsShort (decision core.phase c core s) head) (old-filled core rest f) short))

-- what is known of a side's bytes stays
pub known_stays : {core : Core} {s : Side} {rest : Rest} → Held core s rest → (next : Core) → Later s core next → (v : IncomingView) → bytes_come v ≡ rest.bytes →
    IsKnown (decision core.phase (old_of core rest) core s) core v → IsKnown (decision next.phase (old_of next rest) next s) next v
known_stays {core} {s} {rest} held next l v is known = go v.expected known
  where
    go : (e : Option Expected) → is_known_by (decision core.phase (old_of core rest) core s) core v.head v.payload e → is_known_by (decision next.phase (old_of next rest) next s) next v.head v.payload e
    go (Some x) k = expected_stays held (subst IsFilled is (filled_with v.head v.payload k.filled)) next l v.head x k
    go None k = (k.0, short_held held next l v.head v.payload is k.1)

-- before the first byte of a message
pub nothing_known : (core : Core) (s : Side) (rest : Rest) → rest.bytes ≡ [] → IsKnown (decision core.phase (old_of core rest) core s) core nothing_come
nothing_known core s rest e = grind (arith, old-empty, deciding, at_once, same_Some)

-- bytes that were taken up to the awaited length
pub come_with : {core : Core} {s : Side} {rest : Rest} → Held core s rest → (v : IncomingView) → bytes_come v ≡ rest.bytes → (more : List ℕ) →
    length (rest.bytes ++ more) ≤ awaited_length (old_of core rest) core s rest.bytes →
    IsKnown (decision core.phase (old_of core rest) core s) core v → IsCome (decision core.phase (old_of core rest) core s) core (incoming_with v more)
come_with {core} {s} {rest} held v is more up known = go v.expected known
  where
    decided : List ℕ → Option Decision
    decided = decision core.phase (old_of core rest) core s

    up_to : length ((v.head ++ v.payload) ++ more) ≤ awaited_length_by (decided (v.head ++ v.payload)) (v.head ++ v.payload)
    up_to = subst (λ bs. length (bs ++ more) ≤ awaited_length (old_of core rest) core s bs) (sym is) up

    go : (e : Option Expected) → is_known_by decided core v.head v.payload e → IsCome decided core (incoming_with_by e (record v { expected = e }) more)
    go (Some x) k =
        let n : awaited_length_by (decided (v.head ++ v.payload)) (v.head ++ v.payload) ≡ length v.head + payload_length_of x = expected_awaited decided core v.head v.payload x k in
        (k, omega (arith, up_to, n, length-append (v.head ++ v.payload) more, length-append v.head v.payload, length-append v.payload more))
    go None k = (
      k.0,
      λ d e.
          let D = deciding_rest held (v.head ++ more) d e in
          let bare : v.head ++ v.payload ≡ v.head = ap (λ l. v.head ++ l) k.0 ∙ append-nil v.head in
          taken_within s (old_of core rest) core v.head more d D.0 D.1 k.1 (subst (λ bs. length (bs ++ more) ≤ awaited_length_by (decided bs) bs) bare up_to) e,
    )
