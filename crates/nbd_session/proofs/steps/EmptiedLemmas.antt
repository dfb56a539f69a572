-- A whole message was taken out of what has come of its side, and accepted.
use Rattle.nbd_session.proofs.{Common.{arith, ◌≡◌, ℕ, ◌∙◌, ap, refl, sym, subst, Option, Some, Memory, Whole, Message, Monitor, Past, Side, Core, Expected, Answers, AreKnown, IsKept, IsReached, IsSendable, IsWhole, MayComplete, MayTake, Shows, State, complete, completed, holding_of, incoming_of, is_reply_to, message_of, noted, nothing_come, place_answered, with_incoming}, judge.PieceLemmas.kept}
use Rattle.nbd_session.proofs.steps.{AcceptLemmas.{accepted_holding, accepted_shut, accepted_stands, may_take}, ConcludeLemmas.{answers_at, whole_read}, HoldingLemmas.{incoming_here, incoming_other, same_but}, SettleLemmas.IsRead, StepLemmas.with_message}

same_incoming : (mid new : Monitor) → new.client ≡ mid.client → new.server ≡ mid.server → (u : Side) → incoming_of new u ≡ incoming_of mid u
same_incoming mid new c v u = grind arith

module _ (held mid : Monitor) (s : Side) (x : Expected) (past : Past) (w : IsWhole held s x past) (m : Message) (is_m : m ≡ message_of x (incoming_of held s).payload) (is : mid ≡ with_incoming held s nothing_come) where
  still : mid ≡ record held { client = (with_incoming held s nothing_come).client; server = (with_incoming held s nothing_come).server }
  still = is ∙ same_but held s nothing_come

  state_is : mid.state ≡ held.state
  state_is = ap (λ (h : Monitor). h.state) still

  read : IsRead held s past w.expecting.taken (Whole m)
  read = subst (λ n. IsRead held s past w.expecting.taken (Whole n)) (sym is_m) (whole_read held s x past w)

  -- it is one of those that may complete here, and answers the request at its place
  pub may : MayTake mid.state m
  may = may_take held s past w.expecting.taken m read mid.state state_is

  pub answers : (place : ℕ) → place ≡ place_answered x → Answers mid.state m place
  answers place at =
      subst (λ (z : State). Answers z m place) (sym state_is)
      (subst (λ n. Answers held.state n place) (sym is_m)
      (subst (Answers held.state (message_of x (incoming_of held s).payload)) (sym at)
      (answers_at held.state w.expecting.taken.reader.core w.expecting.taken.shows x (incoming_of held s).payload w.expecting.is.placed)))

  module _ (state : State) (profile : state.profile ≡ mid.state.profile) where
    emptied_here : incoming_of (record mid { state = state }) s ≡ nothing_come
    emptied_here = same_incoming mid (record mid { state = state }) refl refl s ∙ ap (λ h. incoming_of h s) is ∙ incoming_here held s nothing_come

    kept_other : (u : Side) → (s ≡ u → ⊥) → incoming_of (record mid { state = state }) u ≡ incoming_of held u
    kept_other u ne = same_incoming mid (record mid { state = state }) refl refl u ∙ ap (λ h. incoming_of h u) is ∙ incoming_other held s u nothing_come ne

    holding : holding_of (record mid { state = state }) (completed past (Some m)) ≡ with_message (holding_of held past) s m
    holding = accepted_holding held (record mid { state = state }) s past m (profile ∙ ap (λ (z : State). z.profile) state_is) emptied_here kept_other (ap (λ (h : Monitor). h.counted) still)

    -- memory ran out while it was accepted
    pub kept_shut : IsKept (record mid { state = state; closed = Some Memory }) (completed past (Some m))
    kept_shut = accepted_shut held s past w.expecting.taken m read (record mid { state = state; closed = Some Memory }) holding (ap (λ (h : Monitor). h.taken) still)

    -- it was accepted
    pub kept_accepted : ((core : Core) → IsReached core → Shows mid.state core → IsSendable m → MayComplete core core.phase m → Shows state (complete core m)) →
        ((core : Core) (before : ℕ → Option ℕ) → IsReached core → Shows mid.state core → AreKnown before mid.state.exchanges.items → AreKnown (λ k. noted (before k) (is_reply_to core m k) mid.counted) state.exchanges.items) →
        IsKept (record mid { state = state }) (completed past (Some m))
    kept_accepted shown known =
        let t = w.expecting.taken in
        kept (record mid { state = state }) (completed past (Some m))
        (accepted_stands held s past t m read (record mid { state = state }) (ap (λ (h : Monitor). h.closed) still ∙ t.unclosed) holding emptied_here kept_other
        (λ reached shows sendable completes. shown t.reader.core reached (subst (λ state. Shows state t.reader.core) (sym state_is) shows) sendable completes)
        (λ reached shows knew.
        subst (λ n. AreKnown (λ k. noted (t.reader.known k) (is_reply_to t.reader.core m k) n) state.exchanges.items) (ap (λ (h : Monitor). h.counted) still)
        (known t.reader.core t.reader.known reached (subst (λ state. Shows state t.reader.core) (sym state_is) shows) (subst (λ (state : State). AreKnown t.reader.known state.exchanges.items) (sym state_is) knew)))
        (ap (λ (h : Monitor). h.taken) still))
