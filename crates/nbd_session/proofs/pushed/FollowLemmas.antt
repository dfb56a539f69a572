-- A session that a monitor follows after a push.
use Rattle.nbd_session.proofs.Common.{◌≡◌, ℕ, List, [], ◌∷◌, ◌++◌, refl, sym, ◌∙◌, ap, subst, append-nil, option_to_list, take, drop, take-append-drop, Option, Some, None, Result, Ok, Err, Message, Monitor, Past, Stretch, Side, Client, Server, SessionFault, Adds, Follows, IsComplete, IsCompleteBy, IsKept, IsPushed, Pair, side_pairs, bytes_come, bytes_from, completed, fault_of, mixture, pairs_of, sent, SessionView}
use Rattle.nbd_session.proofs.{judge.{PieceLemmas.kept_run, RefusalLemmas.is_complete}, pushed.LogLemmas.{adds_nothing, messages_completed, pairs_completed, run_holds}}

-- each byte is a stretch of its own
abbrev singles : List Pair → List Stretch
singles [] = []
singles (p ∷ ps) = record { from = p.from; length = 1 } ∷ singles ps

mixed_first : (s : Side) (b : ℕ) (ps : List Pair) → mixture (singles ps) (bytes_from Client ps) (bytes_from Server ps) ≡ ps →
    mixture (singles (record { from = s; byte = b } ∷ ps)) (bytes_from Client (record { from = s; byte = b } ∷ ps)) (bytes_from Server (record { from = s; byte = b } ∷ ps)) ≡ record { from = s; byte = b } ∷ ps
mixed_first Client b ps e = ap (λ l. record { from = Client; byte = b } ∷ l) e
mixed_first Server b ps e = ap (λ l. record { from = Server; byte = b } ∷ l) e

-- bytes are the mixture of each side's
mixed_singles : (ps : List Pair) → mixture (singles ps) (bytes_from Client ps) (bytes_from Server ps) ≡ ps
mixed_singles [] = refl
mixed_singles (p ∷ ps) = mixed_first p.from p.byte ps (mixed_singles ps)

-- a prefix of what is left was taken, and perhaps a message completed
pub adds_step : (past : Past) (s : Side) (count : ℕ) (left : List ℕ) (message : Option Message) →
    Adds past.pairs (completed (sent past s (take count left)) message).pairs past.messages (completed (sent past s (take count left)) message).messages s left (drop count left)
adds_step past s count left message = record {
  prefix = take count left;
  more = option_to_list message;
  parts = take-append-drop count left;
  has_pairs = pairs_completed (sent past s (take count left)) message;
  has_messages = messages_completed (sent past s (take count left)) message;
}

-- a session with these bytes and messages
module _ (new : Monitor) (past : Past) (k : IsKept new past) where
  abbrev next : SessionView
  next = record {
    profile = new.state.profile;
    messages = past.messages;
    client = bytes_come new.client;
    server = bytes_come new.server;
    stretches = singles past.pairs;
    closed = new.closed;
  }

  pairs_next : pairs_of next ≡ past.pairs
  pairs_next =
      let holds = run_holds (kept_run new past k) in
      (λ i. mixture (singles past.pairs) (sym (holds Client) i) (sym (holds Server) i)) ∙ mixed_singles past.pairs

  follows_next : Follows new next
  follows_next = record {
    kept = subst (IsKept new) (λ i. record { pairs = sym pairs_next i; messages = past.messages }) k;
    profile_is = refl;
    client_is = refl;
    server_is = refl;
    closed_is = refl;
  }

-- what a push answers, by how it stands then
pushed_by : (old new : SessionView) (s : Side) (piece left : List ℕ) → new.profile ≡ old.profile → Adds (pairs_of old) (pairs_of new) old.messages new.messages s piece left → IsComplete new →
    (answer : Result (Unit {0}) SessionFault) → fault_of answer ≡ new.closed → (new.closed ≡ None → left ≡ []) → ((fault : SessionFault) → old.closed ≡ Some fault → new ≡ old) → IsPushed old new s piece answer
pushed_by old new s piece left profile adds complete (Ok u) is all same =
    let whole : adds.prefix ≡ piece = sym (append-nil adds.prefix) ∙ ap (λ l. adds.prefix ++ l) (sym (all (sym is))) ∙ adds.parts in
    record {
      profile = profile;
      added = adds.has_pairs ∙ ap (λ l. pairs_of old ++ side_pairs s l) whole;
      unclosed = sym is;
      prefix = (left, adds);
      refused = tt;
      closed = λ fault e. absurd (let q : None ≡ Some fault = is ∙ ap (λ (r : SessionView). r.closed) (same fault e) ∙ e in cc);
      wire = tt;
    }
pushed_by old new s piece left profile adds complete (Err other) is all same = record {
  profile = profile;
  added = tt;
  unclosed = tt;
  prefix = (left, adds);
  refused = sym is;
  closed = λ fault e. (
    (let q : Some other ≡ Some fault = is ∙ ap (λ (r : SessionView). r.closed) (same fault e) ∙ e in cc),
    same fault e,
  );
  wire = subst (λ c. IsCompleteBy c new) (sym is) complete;
}

-- after a push it follows a session that was pushed
pub pushed : (held new : Monitor) (r : SessionView) (s : Side) (piece left : List ℕ) (past : Past) (answer : Result (Unit {0}) SessionFault) → Follows held r → IsKept new past →
    Adds (pairs_of r) past.pairs r.messages past.messages s piece left → new.state.profile ≡ held.state.profile → ((fault : SessionFault) → held.closed ≡ Some fault → new ≡ held) → fault_of answer ≡ new.closed →
    (new.closed ≡ None → left ≡ []) → (n : SessionView) × Follows new n × IsPushed r n s piece answer
pushed held new r s piece left past answer f k adds profile same is all = go r.closed refl
  where
    go : (c : Option SessionFault) → r.closed ≡ c → (n : SessionView) × Follows new n × IsPushed r n s piece answer
    go None unclosed =
        let n : SessionView = next new past k in
        let follows : Follows new n = follows_next new past k in (
          n,
          follows,
          pushed_by r n s piece left (profile ∙ f.profile_is) (subst (λ ps. Adds (pairs_of r) ps r.messages past.messages s piece left) (sym (pairs_next new past k)) adds) (is_complete new n follows) answer is all
              (λ fault e. absurd (let q : None ≡ Some fault = sym unclosed ∙ e in cc)),
        )
    go (Some fault) shut =
        let held_shut = f.closed_is ∙ shut in
        let still : new ≡ held = same fault held_shut in
        let follows : Follows new r = subst (λ h. Follows h r) (sym still) f in (
          r,
          follows,
          pushed_by r r s piece piece refl (adds_nothing (pairs_of r) r.messages s piece) (is_complete new r follows) answer (is ∙ ap (λ (h : Monitor). h.closed) still ∙ f.closed_is)
              (λ none. absurd (let q : None ≡ Some fault = sym none ∙ shut in cc)) (λ other e. refl),
        )
