-- What is held once more bytes of a side were taken.
use Rattle.nbd_session.proofs.Common.{arith, ◌⊎◌, inl, inr, refl, ◌∷◌, ◌++◌, false, Some, Wire, Unfinished, open_end_fault, ◌==◌, ◌≡◌, ℕ, ◌+◌, List, [], length, sym, ◌∙◌, ap, Option, Bool, true, append_assoc, append-nil, Side, Server, Core, Decision, IncomingView, Monitor, Past, bytes_come, incoming_with, holding_of, incoming_of, with_incoming, sent, IsKnown, decided, count_at_server, with_bytes, Stands}
use Rattle.nbd_session.proofs.steps.{HoldingLemmas.{incoming_here, incoming_other, same_but}, IncomingLemmas.none_of_known}

module _ (decided : List ℕ → Option Decision) (core : Core) (v : IncomingView) (known : IsKnown decided core v) where
  pub count_same : (counted n : ℕ) → count_at_server Server v.head counted n ≡ count_at_server Server (bytes_come v) counted n
  count_same counted n = grind (arith, none_of_known)

module _ (held new : Monitor) (past : Past) (s : Side) (more : List ℕ) (st : Stands held past)
    (is : new ≡ record (with_incoming held s (incoming_with (incoming_of held s) more)) { counted = new.counted; taken = held.taken + length more }) where
  abbrev v : IncomingView
  v = incoming_with (incoming_of held s) more

  pub taken_here : incoming_of new s ≡ v
  taken_here = grind (arith, incoming_here)

  pub taken_other : (u : Side) → (s ≡ u → ⊥) → incoming_of new u ≡ incoming_of held u
  taken_other u ne = grind (arith, incoming_other)

  pub taken_state : new.state ≡ held.state
  taken_state = ap (λ (h : Monitor). h.state) is ∙ ap (λ (h : Monitor). h.state) (same_but held s v)

  pub taken_open : new.closed ≡ held.closed
  taken_open = ap (λ (h : Monitor). h.closed) is ∙ ap (λ (h : Monitor). h.closed) (same_but held s v)

  pub taken_count : new.taken ≡ held.taken + length more
  taken_count = ap (λ (h : Monitor). h.taken) is

  pub taken_holding : (n : ℕ) → new.counted ≡ count_at_server s held.server.head held.counted n → holding_of new (sent past s more) ≡ with_bytes (holding_of held past) s more n
  taken_holding n counted = grind (arith, taken_here, taken_other, taken_state, count_same, append_assoc, append-nil)

-- a side of whose head no byte has come
pub none_on : (held : Monitor) (past : Past) (s : Side) (b : Bool) → Stands held past → b ≡ (length (incoming_of held s).head == 0) → b ≡ true → bytes_come (incoming_of held s) ≡ []
none_on held past s b st is e = none_of_known (decided st.reader s) st.reader.core (incoming_of held s) (st.knows s) (sym is ∙ e)

-- a side with a byte of a head is open
opened : (head payload server : List ℕ) (at : ℕ) → (length head == 0) ≡ false → Some (Wire at Unfinished) ≡ open_end_fault (head ++ payload) server at
opened [] payload server at e = absurd (cc)
opened (b ∷ head) payload server at e = refl

opened_too : (client head payload : List ℕ) (at : ℕ) → (length head == 0) ≡ false → Some (Wire at Unfinished) ≡ open_end_fault client (head ++ payload) at
opened_too client [] payload at e = absurd (cc)
opened_too [] (b ∷ head) payload at e = refl
opened_too (x ∷ client) (b ∷ head) payload at e = refl

pub open_at : (client server : IncomingView) (at : ℕ) → ((length client.head == 0) ≡ false) ⊎ ((length server.head == 0) ≡ false) → Some (Wire at Unfinished) ≡ open_end_fault (bytes_come client) (bytes_come server) at
open_at client server at (inl e) = opened client.head client.payload (bytes_come server) at e
open_at client server at (inr e) = opened_too (bytes_come client) server.head server.payload at e
