-- A piece of a side's bytes: how far it is taken at once, and what it adds.
use Rattle.nbd_session.proofs.Common.{◌≡◌, ℕ, suc, ◌+◌, ◌<◌, ◌≤◌, List, [], ◌∷◌, ◌++◌, length, refl, sym, ◌∙◌, ap, subst, arith, append_assoc, append-nil, length-append, take, slice_index_or, Fits, w8, length-map, length-take-le, Message, Side, Client, Server, AreBytes, Pair, side_pairs, Stretch, mixture, SessionFault, Memory, Monitor, Past, min, count_at_server, with_incoming, sent, holding_of, incoming_of, incoming_with, IsCome, IsKnown, awaited, decided, IsFilled, Option, Some, None, Reader, get, Adds, AreKnown, Shows, AreStretchesOf, Holding, IsReadTo, rest_of, stretch_bytes, with_bytes, HoldsRun, IsKept, IsKeptBy, IsTaken, Stands, held_short, shown_length}
use Rattle.nbd_session.proofs.{steps.{KnownLemmas.come_with, HoldingLemmas.rest_is, TakenLemmas.{taken_count, taken_here, taken_holding, taken_open, taken_other, taken_state}, StepLemmas.held_of}, pushed.{OpenByteLemmas.read_is_run_but, PushLemmas.{first_fits, left_stretches, sent-append}}}

-- the stretches' bytes are those of both sides
pub length-mixed : (stretches : List Stretch) (client server : List ℕ) → AreStretchesOf stretches client server → length (mixture stretches client server) ≡ stretch_bytes Client stretches + stretch_bytes Server stretches
length-mixed [] client server h = refl
length-mixed (stretch ∷ stretches) client server h = grind (arith, length-map, length-take-le, first_fits, left_stretches, length-append, length-mixed stretches)

-- something is missing until the next length at which something is decided
pub awaits_some : (held : Monitor) (past : Past) (s : Side) (n : ℕ) (st : Stands held past) → length (rest_of (holding_of held past) s) + n ≡ awaited st.reader s → 0 < n
awaits_some held past s n st is =
    let short = (held_short (held_of (holding_of held past) st.reader st.read_to s)).short in
    let same : length (get st.reader.rests s).bytes ≡ length (rest_of (holding_of held past) s) = ap length (st.read_to.rests_are s) in
    omega (arith, short, same, is)

are_bytes : (bytes : List ℕ) → ((i : ℕ) → Fits w8 (slice_index_or bytes i 0)) → AreBytes bytes
are_bytes [] fits = tt
are_bytes (b ∷ bytes) fits = ((fits 0).fits, are_bytes bytes (λ i. fits (suc i)))

bytes_prefix : (n : ℕ) (bytes : List ℕ) → AreBytes bytes → AreBytes (take n bytes)
bytes_prefix (suc n) (b ∷ bytes) are = (are.0, bytes_prefix n bytes are.1)
bytes_prefix n bytes are = grind arith

prefix_filled : (n : ℕ) (bytes : List ℕ) → 0 < n → n ≤ length bytes → IsFilled (take n bytes)
prefix_filled n bytes l m = grind arith

pub length-sent : (s : Side) (bytes : List ℕ) → length (side_pairs s bytes) ≡ length bytes
length-sent s bytes = length-map bytes (λ b. record { from = s; byte = b })

-- the prefix of a piece was taken
module _ (held taken : Monitor) (past : Past) (s : Side) (left : List ℕ) (count : ℕ) (st : Stands held past) (some : 0 < count) (within : count ≤ length left)
    (holding_is : holding_of taken (sent past s (take count left)) ≡ with_bytes (holding_of held past) s (take count left) (length held.state.exchanges.items)) where
  counts : holding_of taken (sent past s (take count left)) ≡ with_bytes (holding_of held past) s (take count left) (length st.reader.core.entries)
  counts = holding_is ∙ ap (with_bytes (holding_of held past) s (take count left)) (sym (shown_length _ st.reader.core.entries held.state.exchanges.items st.shows.are_shown))

  taken_counts : taken.taken ≡ held.taken + length (take count left) → taken.taken ≡ length (past.pairs ++ side_pairs s (take count left))
  taken_counts e =
      let both = length-append past.pairs (side_pairs s (take count left)) in
      let bytes = length-sent s (take count left) in
      let before = st.taken_is in
      omega (arith, e, both, bytes, before)

  is_taken : taken.closed ≡ held.closed → taken.state ≡ held.state → taken.taken ≡ held.taken + length (take count left) → ((i : ℕ) → Fits w8 (slice_index_or left i 0)) →
      (n : ℕ) → length (rest_of (holding_of held past) s) + n ≡ awaited st.reader s → count ≤ n →
      incoming_of taken s ≡ incoming_with (incoming_of held s) (take count left) → ((u : Side) → (s ≡ u → ⊥) → incoming_of taken u ≡ incoming_of held u) → IsTaken taken s (sent past s (take count left))
  is_taken unclosed state_is e fits n is up here others =
      let same : length (get st.reader.rests s).bytes ≡ length (rest_of (holding_of held past) s) = ap length (st.read_to.rests_are s) in
      let len : length (take count left) ≡ count = length-take-le count left within in
      let up_to : length ((get st.reader.rests s).bytes ++ take count left) ≤ awaited st.reader s = omega (arith, up, is, same, len, length-append (get st.reader.rests s).bytes (take count left)) in
      record {
        unclosed = unclosed ∙ st.unclosed;
        before = holding_of held past;
        reader = st.reader;
        read_to = st.read_to;
        more = take count left;
        filled = prefix_filled count left some within;
        are_bytes = bytes_prefix count left (are_bytes left fits);
        up_to = up_to;
        holding_is = counts;
        shows = subst (λ state. Shows state st.reader.core) (sym state_is) st.shows;
        known = subst (λ state. AreKnown st.reader.known state.exchanges.items) (sym state_is) st.known;
        taken_is = taken_counts e;
        come = subst (IsCome (decided st.reader s) st.reader.core) (sym here)
            (come_with (held_of (holding_of held past) st.reader st.read_to s) (incoming_of held s) (sym (rest_is held past s) ∙ sym (st.read_to.rests_are s)) (take count left) up_to (st.knows s));
        knows = λ u ne. subst (IsKnown (decided st.reader u) st.reader.core) (sym (others u ne)) (st.knows u);
      }

pub took : (held new : Monitor) (past : Past) (s : Side) (left : List ℕ) (missing count : ℕ) (st : Stands held past) → 0 < length left → ((i : ℕ) → Fits w8 (slice_index_or left i 0)) →
    length (rest_of (holding_of held past) s) + missing ≡ awaited st.reader s → count ≡ min missing (length left) →
    new ≡ record (with_incoming held s (incoming_with (incoming_of held s) (take count left))) { counted = new.counted; taken = held.taken + length (take count left) } →
    new.counted ≡ count_at_server s held.server.head held.counted (length held.state.exchanges.items) → IsTaken new s (sent past s (take count left))
took held new past s left missing count st filled fits up is_count is counted =
    let some = awaits_some held past s missing st up in
    let more = take count left in
    is_taken held new past s left count st (omega (arith, some, filled, is_count)) (omega (arith, is_count)) (taken_holding held new past s more st is (length held.state.exchanges.items) counted)
    (taken_open held new past s more st is) (taken_state held new past s more st is) (taken_count held new past s more st is) fits missing up (omega (arith, is_count))
    (taken_here held new past s more st is) (taken_other held new past s more st is)

-- a piece and what came of its rest
pub added_then : (a b c : List Pair) (m n o : List Message) (s : Side) (piece left later : List ℕ) → Adds a b m n s piece left → Adds b c n o s left later → Adds a c m o s piece later
added_then a b c m n o s piece left later x y = record {
  prefix = x.prefix ++ y.prefix;
  more = x.more ++ y.more;
  parts = append_assoc x.prefix y.prefix later ∙ ap (λ l. x.prefix ++ l) y.parts ∙ x.parts;
  has_pairs = y.has_pairs ∙ ap (λ ps. ps ++ side_pairs s y.prefix) x.has_pairs ∙ append_assoc a (side_pairs s x.prefix) (side_pairs s y.prefix) ∙ ap (λ ps. a ++ ps) (sym (sent-append s x.prefix y.prefix));
  has_messages = y.has_messages ∙ ap (λ ms. ms ++ y.more) x.has_messages ∙ append_assoc m x.more y.more;
}

-- what the reader has read is of a run
pub read_run : (h : Holding) (reader : Reader) → IsReadTo h reader → HoldsRun h
read_run h reader read =
    let r = read_is_run_but h.past.pairs reader h.past.messages h.client h.server read.are_pairs read.reads_it read.messages_are (read.rests_are Client) (read.rests_are Server) in
    record { items = r.0; is_run = r.1; has_pairs = r.2; has_messages = r.3 }

pub standing_run : (held : Monitor) (past : Past) → Stands held past → HoldsRun (holding_of held past)
standing_run held past st = read_run (holding_of held past) st.reader st.read_to

-- one that stands is kept
pub kept : (held : Monitor) (past : Past) → Stands held past → IsKept held past
kept held past st = subst (λ c. IsKeptBy c held past) (sym st.unclosed) st

-- one that is kept and not closed stands
pub stands_open : (held : Monitor) (past : Past) → IsKept held past → held.closed ≡ None → Stands held past
stands_open held past k unclosed = subst (λ c. IsKeptBy c held past) unclosed k

-- what is kept is of a run
pub kept_run : (held : Monitor) (past : Past) → IsKept held past → HoldsRun (holding_of held past)
kept_run held past k = go held.closed k
  where
    go : (c : Option SessionFault) → IsKeptBy c held past → HoldsRun (holding_of held past)
    go None st = standing_run held past st
    go (Some fault) shut = shut.run

-- so many bytes were taken
pub kept_taken : (held : Monitor) (past : Past) → IsKept held past → held.taken ≡ length past.pairs
kept_taken held past k = go held.closed k
  where
    go : (c : Option SessionFault) → IsKeptBy c held past → held.taken ≡ length past.pairs
    go None st = st.taken_is
    go (Some fault) shut = shut.taken_is

-- memory ran out where it stands
pub closed_memory : (held : Monitor) (past : Past) → Stands held past → IsKept (record held { closed = Some Memory }) past
closed_memory held past st = record { run = standing_run held past st; taken_is = st.taken_is; cause = tt }

-- no byte is sent
pub sent_nothing : (past : Past) (s : Side) → sent past s [] ≡ past
sent_nothing past s = ap (λ ps. record { pairs = ps; messages = past.messages }) (append-nil past.pairs)
