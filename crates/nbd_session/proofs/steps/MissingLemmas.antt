-- How many bytes of a side are missing until something is decided of them.
use Rattle.nbd_session.proofs.Common.{◌≡◌, ◌⊎◌, ℕ, ◌+◌, ◌<◌, List, [], ◌++◌, length, sym, ◌∙◌, ap, subst, inl, Option, Some, None, append-nil, arith, length-append, Bool, if◌then◌else◌, lt-ltb, Side, Core, awaited_length_by, awaited_length, decision_by_count, Decision, judge, reading_by_decision, decision, IsFilled, More, Rest, get, old_of, held_short, in_head, deciding, at_once, none_held, old-empty, some_held, Shows, Expected, Monitor, Past, bytes_come, HasHeadLength, payload_length_of, holding_of, incoming_of, awaited, decided, is_known_by, count_at_server, Stands}
use Rattle.nbd_session.proofs.{expecting.KnownLemmas.expected_awaited, steps.{HoldingLemmas.rest_is, StepLemmas.{decided_held, held_of}}}
use Rattle.nbd_laws.proofs.reading.ReaderLemmas.{Held}

-- bytes are judged to go on, or there are none and the side may not send
abbrev IsOpen : Option Decision → List ℕ → Type 0
IsOpen o bytes = (reading_by_decision o bytes ≡ More) ⊎ (o ≡ None) × (bytes ≡ [])

open_held : {core : Core} {s : Side} {rest : Rest} → Held core s rest → IsOpen (decision core.phase (old_of core rest) core s rest.bytes) rest.bytes
open_held {core} {s} {rest} (none_held r e) = grind (arith, old-empty, some_held, held_short, append-nil, deciding, at_once, in_head)
open_held {core} {s} {rest} (some_held r now f k m l) =
    let held : Held core s rest = some_held r now f k m l in
    let short = (held_short held).short in
    inl (subst (λ bytes. judge (old_of core rest) core s bytes ≡ More) (append-nil rest.bytes)
    ((held_short held).goes [] (subst IsFilled (sym (append-nil rest.bytes)) f) (subst (λ bytes. length bytes < awaited_length (old_of core rest) core s rest.bytes) (sym (append-nil rest.bytes)) short)))

-- a side that may not send has sent nothing
refused_first : (o : Option Decision) (bytes : List ℕ) → IsOpen o bytes → o ≡ None → (awaited_length_by o bytes ≡ 1) × (length bytes ≡ 0)
refused_first o bytes q e = grind arith

module _ (held : Monitor) (past : Past) (s : Side) (st : Stands held past) where
  come_is : bytes_come (incoming_of held s) ≡ (get st.reader.rests s).bytes
  come_is = sym (rest_is held past s) ∙ sym (st.read_to.rests_are s)

  awaited_of : awaited_length_by (decided st.reader s (bytes_come (incoming_of held s))) (bytes_come (incoming_of held s)) ≡ awaited st.reader s
  awaited_of = ap (λ bs. awaited_length_by (decided st.reader s bs) bs) come_is

  pub come_short : length (bytes_come (incoming_of held s)) < awaited st.reader s
  come_short =
      let short = (held_short (held_of (holding_of held past) st.reader st.read_to s)).short in
      let same : length (bytes_come (incoming_of held s)) ≡ length (get st.reader.rests s).bytes = ap length come_is in
      omega (arith, short, same)

  -- the bytes after a head that is whole
  pub payload_missing : (x : Expected) → (incoming_of held s).expected ≡ Some x → (length (incoming_of held s).payload < payload_length_of x) × (awaited st.reader s ≡ length (incoming_of held s).head + payload_length_of x)
  payload_missing x is = grind (arith, awaited_of, expected_awaited, come_short, length-append)

  module _ (none : (incoming_of held s).expected ≡ None) where
    bare_known : is_known_by (decided st.reader s) st.reader.core (incoming_of held s).head (incoming_of held s).payload None
    bare_known = subst (is_known_by (decided st.reader s) st.reader.core (incoming_of held s).head (incoming_of held s).payload) none (st.knows s)

    pub bare : bytes_come (incoming_of held s) ≡ (incoming_of held s).head
    bare = ap (λ l. (incoming_of held s).head ++ l) bare_known.0 ∙ append-nil (incoming_of held s).head

    decided_so : (bytes : List ℕ) → decided st.reader s bytes ≡ decision_by_count (count_at_server s (holding_of held past).server held.counted (length st.reader.core.entries)) st.reader.core s bytes
    decided_so bytes = decided_held (holding_of held past) st.reader s st.read_to bytes

    -- the bytes of a head that is not whole
    pub head_is_missing : (head : List ℕ) (n : ℕ) → head ≡ (incoming_of held s).head → HasHeadLength held.state s head n → (length head < n) × (awaited st.reader s ≡ n)
    head_is_missing head n is known =
        let d = known st.reader.core (count_at_server s (holding_of held past).server held.counted (length st.reader.core.entries)) st.shows in
        let decides : decided st.reader s (incoming_of held s).head ≡ Some d.0 = subst (λ h. decided st.reader s h ≡ Some d.0) is (decided_so head ∙ d.1) in
        let short : length (incoming_of held s).head < d.0.head_length = bare_known.1 d.0 decides in
        let all : awaited st.reader s ≡ d.0.head_length =
        sym awaited_of ∙ ap (λ bs. awaited_length_by (decided st.reader s bs) bs) bare ∙ ap (λ o. awaited_length_by o (incoming_of held s).head) decides
        ∙ ap (λ (b : Bool). if b then d.0.head_length else d.0.head_length + d.0.payload_length) (lt-ltb (length (incoming_of held s).head) d.0.head_length short) in
        let len = d.2 in
        let same = ap length is in
        (omega (arith, short, len, same), all ∙ len)

    -- the first byte of a side that may not send
    pub first_is_missing : (head : List ℕ) → head ≡ (incoming_of held s).head → ((core : Core) (counted : ℕ) → Shows held.state core → decision_by_count counted core s head ≡ None) → (awaited st.reader s ≡ 1) × (length head ≡ 0)
    first_is_missing head is bad =
        let word : decided st.reader s head ≡ None = decided_so head ∙ bad st.reader.core (count_at_server s (holding_of held past).server held.counted (length st.reader.core.entries)) st.shows in
        let same : bytes_come (incoming_of held s) ≡ head = bare ∙ sym is in
        let opened : IsOpen (decided st.reader s (bytes_come (incoming_of held s))) (bytes_come (incoming_of held s)) =
        subst (λ bs. IsOpen (decided st.reader s bs) bs) (sym come_is) (open_held (held_of (holding_of held past) st.reader st.read_to s)) in
        let r = refused_first (decided st.reader s head) head (subst (λ bs. IsOpen (decided st.reader s bs) bs) same opened) word in
        (sym awaited_of ∙ ap (λ bs. awaited_length_by (decided st.reader s bs) bs) same ∙ r.0, r.1)
