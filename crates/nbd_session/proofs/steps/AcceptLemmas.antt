-- A whole message is accepted.
use Rattle.nbd_session.proofs.Common.{◌≡◌, List, [], length, refl, sym, ◌∙◌, ap, subst, inl, inr, Some, None, Message, Side, Client, Server, MayComplete, complete, IsSendable, Memory, Monitor, Past, Exchange, decision, Reader, Rest, Whole, get, old_of, State, MayTake, bytes_come, nothing_come, holding_of, incoming_of, IsKnown, decided, IsReached, at_once, behind, get-put_other, get-put_same, reached_of, same_or_not, AreKnown, Shows, Holding, IsReadTo, completed, count_at_server, rest_of, with_bytes, HoldsRun, IsShut, IsTaken, Stands, asks_only, noted, is_reply_to, is_this, suc, unnoted}
use Rattle.nbd_session.proofs.{judge.PieceLemmas.read_run, reports.CountLemmas.count_of, steps.{HoldingLemmas.rest_is, KnownLemmas.{known_stays, nothing_known}, SettleLemmas.{IsRead, says_so}, StepLemmas.{IsWholeTaken, count_at, reader_behind, held_of, whole_taken, with_message}}}

module _ (held : Monitor) (s : Side) (past : Past) (t : IsTaken held s past) (m : Message) (whole : IsRead held s past t (Whole m)) where
  abbrev after : Holding
  after = with_bytes t.before s t.more (length t.reader.core.entries)

  pub is_taken : IsWholeTaken t.before t.reader s after m
  is_taken = whole_taken t.before t.reader t.read_to s t.more t.filled t.are_bytes t.up_to m (says_so held s past t (Whole m) whole)

  pub reached : IsReached t.reader.core
  reached = reached_of (held_of t.before t.reader t.read_to s)

  -- the count that is noted is the one that is held, where it matters
  known_as_held : (xs : List Exchange) → AreKnown (λ k. noted (t.reader.known k) (is_reply_to t.reader.core m k) held.counted) xs → AreKnown (reader_behind t.reader s m).known xs
  known_as_held xs known = go s refl
    where
      go : (u : Side) → s ≡ u → AreKnown (λ k. noted (t.reader.known k) (is_reply_to t.reader.core m k) (count_of t.reader.core (get t.reader.rests s))) xs
      go Client e place =
          let none = asks_only t.reader.core m (is_taken.at.sided ∙ e) in
          let before = t.reader.known (suc place) in
          ap (λ a. noted before (is_this a (suc place)) (count_of t.reader.core (get t.reader.rests s))) none ∙ unnoted before (count_of t.reader.core (get t.reader.rests s))
          ∙ sym (unnoted before held.counted) ∙ sym (ap (λ a. noted before (is_this a (suc place)) held.counted) none) ∙ known place
      go Server e place = subst (λ n. AreKnown (λ k. noted (t.reader.known k) (is_reply_to t.reader.core m k) n) xs) same known place
        where
          same : held.counted ≡ count_of t.reader.core (get t.reader.rests s)
          same =
              ap (λ (h : Holding). h.counted) t.holding_is
              ∙ ap (λ u. count_at_server u t.before.server t.before.counted (length t.reader.core.entries)) e
              ∙ count_at t.before.server t.reader.rests.server t.reader.core t.before.counted (t.read_to.rests_are Server) t.read_to.count_is
              ∙ sym (ap (λ u. count_of t.reader.core (get t.reader.rests u)) e)

  pub holding_after : (new : Monitor) → holding_of new (completed past (Some m)) ≡ with_message (holding_of held past) s m → holding_of new (completed past (Some m)) ≡ with_message after s m
  holding_after new holding = holding ∙ ap (λ h. with_message h s m) t.holding_is

  -- it is taken where the session stands
  pub may_take : (state : State) → state ≡ held.state → MayTake state m
  may_take state same = record { core = t.reader.core; reached = reached; shows = subst (λ state. Shows state t.reader.core) (sym same) t.shows; completes = is_taken.at.completes }

  -- memory ran out after it was accepted
  pub accepted_shut : (new : Monitor) → holding_of new (completed past (Some m)) ≡ with_message (holding_of held past) s m → new.taken ≡ held.taken → IsShut new (completed past (Some m)) Memory
  accepted_shut new holding same = record {
    run = subst HoldsRun (sym (holding_after new holding)) (read_run (with_message after s m) _ is_taken.read_to);
    taken_is = same ∙ t.taken_is;
    cause = tt;
  }

  abbrev reader : Reader
  reader = reader_behind t.reader s m

  abbrev next : Rest
  next = record { bytes = []; since = old_of t.reader.core (get t.reader.rests s) }

  known_after : (new : Monitor) → incoming_of new s ≡ nothing_come → ((u : Side) → (s ≡ u → ⊥) → incoming_of new u ≡ incoming_of held u) → (u : Side) → IsKnown (decided reader u) reader.core (incoming_of new u)
  known_after new empty others u = elim (same_or_not s u) [
    | inl e ↦ subst (λ v. IsKnown (decided reader v) reader.core (incoming_of new v)) e
        (subst (λ (r : Rest). IsKnown (decision reader.core.phase (old_of reader.core r) reader.core s) reader.core (incoming_of new s)) (sym (get-put_same t.reader.rests s next))
        (subst (IsKnown (decision reader.core.phase (old_of reader.core next) reader.core s) reader.core) (sym empty) (nothing_known reader.core s next refl)))
    | inr ne ↦ subst (λ (r : Rest). IsKnown (decision reader.core.phase (old_of reader.core r) reader.core u) reader.core (incoming_of new u)) (sym (get-put_other t.reader.rests s u next ne))
        (subst (IsKnown (decision reader.core.phase (old_of reader.core (get t.reader.rests u)) reader.core u) reader.core) (sym (others u ne))
        (known_stays (held_of t.before t.reader t.read_to u) reader.core (behind m (λ e. ne (sym is_taken.at.sided ∙ e)) is_taken.at.completes at_once) (incoming_of held u) (rest_other u ne) (t.knows u ne)))
  ]
    where
      rest_other : (u : Side) → (s ≡ u → ⊥) → bytes_come (incoming_of held u) ≡ (get t.reader.rests u).bytes
      rest_other u ne = sym (rest_is held past u) ∙ ap (λ h. rest_of h u) t.holding_is ∙ kept s u ne ∙ sym (t.read_to.rests_are u)
        where
          kept : (s u : Side) → (s ≡ u → ⊥) → rest_of (with_bytes t.before s t.more (length t.reader.core.entries)) u ≡ rest_of t.before u
          kept Client Client ne = absurd (ne refl)
          kept Client Server ne = refl
          kept Server Client ne = refl
          kept Server Server ne = absurd (ne refl)

  -- what is held then stands
  pub accepted_stands : (new : Monitor) → new.closed ≡ None → holding_of new (completed past (Some m)) ≡ with_message (holding_of held past) s m → incoming_of new s ≡ nothing_come → ((u : Side) → (s ≡ u → ⊥) → incoming_of new u ≡ incoming_of held u) →
      (IsReached t.reader.core → Shows held.state t.reader.core → IsSendable m → MayComplete t.reader.core t.reader.core.phase m → Shows new.state (complete t.reader.core m)) →
      (IsReached t.reader.core → Shows held.state t.reader.core → AreKnown t.reader.known held.state.exchanges.items →
      AreKnown (λ k. noted (t.reader.known k) (is_reply_to t.reader.core m k) held.counted) new.state.exchanges.items) →
      new.taken ≡ held.taken → Stands new (completed past (Some m))
  accepted_stands new unclosed holding empty others shows knows same = record {
    unclosed = unclosed;
    reader = reader;
    read_to = subst (λ h. IsReadTo h reader) (sym (holding_after new holding)) is_taken.read_to;
    shows = shows reached t.shows is_taken.at.sendable is_taken.at.completes;
    known = known_as_held new.state.exchanges.items (knows reached t.shows t.known);
    taken_is = same ∙ t.taken_is;
    knows = known_after new empty others;
  }

-- a message more, and its bytes are no longer a rest
pub accepted_holding : (held new : Monitor) (s : Side) (past : Past) (m : Message) → new.state.profile ≡ held.state.profile → incoming_of new s ≡ nothing_come →
    ((u : Side) → (s ≡ u → ⊥) → incoming_of new u ≡ incoming_of held u) → new.counted ≡ held.counted → holding_of new (completed past (Some m)) ≡ with_message (holding_of held past) s m
accepted_holding held new Client past m p e o n =
    let other : new.server ≡ held.server = o Server (λ q. (cc)) in
    λ i. record { profile = p i; past = completed past (Some m); client = bytes_come (e i); server = bytes_come (other i); counted = n i }
accepted_holding held new Server past m p e o n =
    let other : new.client ≡ held.client = o Client (λ q. (cc)) in
    λ i. record { profile = p i; past = completed past (Some m); client = bytes_come (other i); server = bytes_come (e i); counted = n i }
