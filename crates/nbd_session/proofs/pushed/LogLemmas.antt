-- A session's log grows with what its monitor took.
use Rattle.nbd_session.proofs.Common.{arith, ◌≡◌, ℕ, suc, ◌+◌, ◌-◌, ◌<◌, ◌≤◌, List, [], length-append, length-drop, SessionFault, ◌++◌, length, take, drop, refl, sym, ◌∙◌, ap, subst, append_assoc, append-nil, option_to_list, length-take-le, Option, Some, None, Memory, Message, Monitor, Past, Profile, Log, Side, Client, Server, Adds, AreStretchesOf, HasRunOf, HasStretches, IsKept, IsLogged, Pair, side_pairs, bytes_come, bytes_from, bytes_of, of_two, bytes_taken, completed, mixture, past_of, pairs_of, run_bytes, sent, session_view, stretch_bytes, stretches_of, stretches_with, with_more, SessionView}
use Rattle.nbd_session.proofs.{judge.PieceLemmas.{closed_memory, kept_run, length-mixed, length-sent, stands_open}, pushed.{OpenByteLemmas.from_more, PushLemmas.{mixed-noted, stretches-noted}}}
use Rattle.nbd_session.specs.declared.stretches.Stretch as program

-- a side has no more bytes in the stretches than were taken
pub stretches_within : (s : Side) (r : SessionView) → HasStretches r → stretch_bytes s r.stretches ≤ bytes_taken r
stretches_within s r h = grind (arith, length-mixed)

pub pairs_completed : (past : Past) (message : Option Message) → (completed past message).pairs ≡ past.pairs
pairs_completed past message = grind arith

pub messages_completed : (past : Past) (message : Option Message) → (completed past message).messages ≡ past.messages ++ option_to_list message
messages_completed past message = grind (arith, append-nil)

-- the bytes of a run, by its messages
pub run_holds : {profile : Profile} {ps : List Pair} {messages : List Message} {client server : List ℕ} (r : HasRunOf profile ps messages client server) (s : Side) → bytes_from s ps ≡ bytes_of s messages ++ of_two s client server
run_holds {profile} {ps} {messages} {client} {server} r Client =
    let there = run_bytes r.items client server r.is_run in
    sym (ap (bytes_from Client) r.has_pairs) ∙ there.of_client ∙ ap (λ ms. bytes_of Client ms ++ client) r.has_messages
run_holds {profile} {ps} {messages} {client} {server} r Server =
    let there = run_bytes r.items client server r.is_run in
    sym (ap (bytes_from Server) r.has_pairs) ∙ there.of_server ∙ ap (λ ms. bytes_of Server ms ++ server) r.has_messages

behind : (s u : Side) (more prefix bytes : List ℕ) → prefix ++ with_more s u more bytes ≡ with_more s u more (prefix ++ bytes)
behind s u more prefix bytes = grind (arith, append_assoc)

-- the stretches after a prefix of this length was noted
pub noted_as : (s : Side) (count : ℕ) (left : List ℕ) (old mid new : List program.Stretch) → count ≤ length left → mid ≡ old → stretches_of new ≡ stretches_with (stretches_of mid) s count →
    stretches_of new ≡ stretches_with (stretches_of old) s (length (take count left))
noted_as s count left old mid new within same noted = noted ∙ ap (λ xs. stretches_with (stretches_of xs) s count) same ∙ ap (stretches_with (stretches_of old) s) (sym (length-take-le count left within))

-- memory ran out before a byte was taken
module _ (held : Monitor) (old log : Log) (same : (log.messages.items ≡ old.messages.items) × (log.stretches.items ≡ old.stretches.items)) (is : IsLogged held old) (unclosed : held.closed ≡ None) where
  abbrev shut : Monitor
  shut = record held { closed = Some Memory }

  past_same : past_of (session_view shut log) ≡ past_of (session_view held old)
  past_same i = past_of (record { profile = held.state.profile; messages = same.0 i; client = bytes_come held.client; server = bytes_come held.server; stretches = stretches_of (same.1 i); closed = None })

  pub logged_closed : IsLogged shut log
  logged_closed = record {
    follows = record {
      kept = subst (IsKept shut) (sym past_same) (closed_memory held (past_of (session_view held old)) (stands_open held (past_of (session_view held old)) is.follows.kept unclosed));
      profile_is = refl;
      client_is = refl;
      server_is = refl;
      closed_is = refl;
    };
    stretches = subst (λ st. AreStretchesOf (stretches_of st) (bytes_of Client log.messages.items ++ bytes_come held.client) (bytes_of Server log.messages.items ++ bytes_come held.server)) (sym same.1)
        (subst (λ ms. AreStretchesOf (stretches_of old.stretches.items) (bytes_of Client ms ++ bytes_come held.client) (bytes_of Server ms ++ bytes_come held.server)) (sym same.0) is.stretches);
  }

-- bytes of a side were taken, and perhaps a message completed
module _ (held new : Monitor) (old log : Log) (s : Side) (more : List ℕ) (message : Option Message) (is : IsLogged held old) (kept : IsKept new (completed (sent (past_of (session_view held old)) s more) message))
    (messages : log.messages.items ≡ old.messages.items ++ option_to_list message) (stretches : stretches_of log.stretches.items ≡ stretches_with (stretches_of old.stretches.items) s (length more)) where
  abbrev before : SessionView
  before = session_view held old

  abbrev past : Past
  past = completed (sent (past_of before) s more) message

  bytes_are : (u : Side) → bytes_of u log.messages.items ++ of_two u (bytes_come new.client) (bytes_come new.server) ≡ bytes_of u before.messages ++ of_two u (with_more s Client more before.client) (with_more s Server more before.server)
  bytes_are u =
      ap (λ ms. bytes_of u ms ++ of_two u (bytes_come new.client) (bytes_come new.server)) (messages ∙ sym (messages_completed (sent (past_of before) s more) message))
      ∙ sym (run_holds (kept_run new past kept) u)
      ∙ ap (bytes_from u) (pairs_completed (sent (past_of before) s more) message)
      ∙ from_more s (pairs_of before) before.messages before.client before.server more (run_holds (kept_run held (past_of before) is.follows.kept)) u

  client_are : bytes_of Client log.messages.items ++ bytes_come new.client ≡ with_more s Client more (bytes_of Client before.messages ++ before.client)
  client_are = bytes_are Client ∙ behind s Client more (bytes_of Client before.messages) before.client

  server_are : bytes_of Server log.messages.items ++ bytes_come new.server ≡ with_more s Server more (bytes_of Server before.messages ++ before.server)
  server_are = bytes_are Server ∙ behind s Server more (bytes_of Server before.messages) before.server

  pairs_are : pairs_of (session_view new log) ≡ pairs_of before ++ side_pairs s more
  pairs_are =
      (λ i. mixture (stretches i) (client_are i) (server_are i))
      ∙ mixed-noted before.stretches (bytes_of Client before.messages ++ before.client) (bytes_of Server before.messages ++ before.server) s more is.stretches

  past_is : past_of (session_view new log) ≡ past
  past_is = λ i. record { pairs = (pairs_are ∙ sym (pairs_completed (sent (past_of before) s more) message)) i; messages = (messages ∙ sym (messages_completed (sent (past_of before) s more) message)) i }

  pub logged_more : IsLogged new log
  logged_more = record {
    follows = record { kept = subst (IsKept new) (sym past_is) kept; profile_is = refl; client_is = refl; server_is = refl; closed_is = refl };
    stretches = subst (λ st. AreStretchesOf st (bytes_of Client log.messages.items ++ bytes_come new.client) (bytes_of Server log.messages.items ++ bytes_come new.server)) (sym stretches)
        (subst (λ l. AreStretchesOf (stretches_with before.stretches s (length more)) l (bytes_of Server log.messages.items ++ bytes_come new.server)) (sym client_are)
        (subst (λ l. AreStretchesOf (stretches_with before.stretches s (length more)) (with_more s Client more (bytes_of Client before.messages ++ before.client)) l) (sym server_are)
        (stretches-noted before.stretches (bytes_of Client before.messages ++ before.client) (bytes_of Server before.messages ++ before.server) s more is.stretches)));
  }

  pub added_more : (left rest : List ℕ) → more ++ rest ≡ left → Adds (pairs_of before) (pairs_of (session_view new log)) before.messages log.messages.items s left rest
  added_more left rest parts = record { prefix = more; more = option_to_list message; parts = parts; has_pairs = pairs_are; has_messages = messages }

-- how far a piece is from its end, where so many bytes are left
abbrev pub to_go : Option SessionFault → ℕ → ℕ
to_go None left = suc left
to_go (Some fault) left = left

-- a step that takes nothing closes
pub comes_nearer : (old new : Option SessionFault) (count : ℕ) (left rest : List ℕ) → old ≡ None → count ≤ length left → rest ≡ drop count left → (new ≡ None → 0 < count) → to_go new (length rest) < to_go old (length left)
comes_nearer (Some fault) new count left rest unclosed within is some = absurd (cc)
comes_nearer None new count left rest unclosed within is some = go new some
  where
    long : length rest ≡ length left - count
    long = ap length is ∙ length-drop count left

    go : (new : Option SessionFault) → (new ≡ None → 0 < count) → to_go new (length rest) < suc (length left)
    go None some = let more = some refl in let n = long in omega (arith, more, n, within)
    go (Some fault) some = let n = long in omega (arith, n)

-- nothing was taken of a piece
pub adds_nothing : (ps : List Pair) (messages : List Message) (s : Side) (piece : List ℕ) → Adds ps ps messages messages s piece piece
adds_nothing ps messages s piece = record { prefix = []; more = []; parts = refl; has_pairs = sym (append-nil ps); has_messages = sym (append-nil messages) }

-- what was taken and what is left are as many as before
pub adds_fits : {a b : List Pair} {m n : List Message} {s : Side} {piece left : List ℕ} → Adds a b m n s piece left → length b + length left ≡ length a + length piece
adds_fits {a} {b} {m} {n} {s} {piece} {left} x =
    let pairs = ap length x.has_pairs ∙ length-append a (side_pairs s x.prefix) in
    let sent = length-sent s x.prefix in
    let bytes = sym (length-append x.prefix left) ∙ ap length x.parts in
    omega (arith, pairs, sent, bytes)
