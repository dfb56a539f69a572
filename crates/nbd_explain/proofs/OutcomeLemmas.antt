-- The report of a run states of each request what the messages behind it tell.
use Rattle.nbd_explain.proofs.Common.{IsAllowed, allowed, and_parts, not-true, ◌≡◌, ◌∙◌, ◌++◌, ◌∷◌, ◌+◌, ◌==◌, ◌&&◌, ◌||◌, not, ℕ, suc, List, [], Bool, true, false, Option, Some, None, is_some, codes, if◌then◌else◌, append_assoc, append-nil, length, map, refl, sym, ap, subst, arith, eqb-true, map-append, or-false, Message, Greeting, ClientFlags, Choice, Exported, Request, Simple, Chunk, ExtendedRequest, ExtendedChunk, Profile, Item, Byte, Starts, Completes, Serves, completed_messages, Exporting, Operation, list_any, ends_reply, is_failing, is_finished, outcome, Asked, asked_list, known_count, operations_of, report, IsRunBut, MayComplete, Obeys, after, complete, cookie_of, core_with_request, ends_at, reply_to, request_of_reply, option_and_then, Context, Core, Phase, State, Transmission, has_contexts, in_force, is_awaiting, start, start_of, target, target_from, with_reply, with_reply_at, outcome_of, Outcome, Failure, Pending, Success, AreDistinct, Free, distinct_complete, in_force_stays, transmission_stays, at_base, AreNamed, IsEnding, is_numbered, message_of, plain, other, request, AreLines, EndsWith, fate, fate_by, has_cookie, outcome_by, reply_in, named, none}
use Rattle.nbd_wire.specs.declared.commands.TheConstants as commands
use Rattle.nbd_wire.specs.declared.message.Message.TheVariants.{Answer}
use Rattle.nbd_wire.specs.protocol.Operations as definitions
use Rattle.nbd_explain.specs.Named.AreNamed.{none as no_names}

-- the reply of a request: what has come of it, and what comes of it in these messages
abbrev whole_reply : List Message → Operation → List Message
whole_reply messages e = e.replies ++ (if is_finished e then [] else reply_in e.cookie messages)

-- what becomes of a request that has this reply
abbrev outcome_with : List Message → definitions.Outcome
outcome_with reply = if list_any ends_reply reply then (if list_any is_failing reply then definitions.Failure else definitions.Success) else definitions.Pending

-- the message of a request, and what becomes of it with these messages
abbrev request_of : Operation → Message
request_of e = Request e.flags e.command e.cookie e.offset e.length e.payload

abbrev told : List Message → Operation → Message × definitions.Outcome
told messages e = (request_of e, outcome_with (whole_reply messages e))

-- the numbered requests of these messages, each with what became of it
abbrev told_if : (has_contexts : Bool) → Message → Option Outcome → List (Message × definitions.Outcome)
told_if has_contexts m (Some o) = (plain has_contexts m, outcome_of o) ∷ []
told_if has_contexts m None = []

abbrev all_told : (has_contexts : Bool) → List Message → List (Message × definitions.Outcome)
all_told has_contexts [] = []
all_told has_contexts (m ∷ later) = told_if has_contexts m (fate m later) ++ all_told has_contexts later

same_outcome : (reply : List Message) → outcome_of (outcome_by reply) ≡ outcome_with reply
same_outcome reply = go (list_any ends_reply reply) (list_any is_failing reply)
  where
    go : (ends fails : Bool) → outcome_of (if ends then (if fails then Failure else Success) else Pending) ≡ (if ends then (if fails then definitions.Failure else definitions.Success) else definitions.Pending)
    go true true = refl
    go true false = refl
    go false fails = refl

-- a message of another reply, or of none
passes : (cookie : ℕ) (m : Message) (later : List Message) → has_cookie cookie (cookie_of m) ≡ false → reply_in cookie (m ∷ later) ≡ reply_in cookie later
passes cookie m later h = ap (λ b. if b then (m ∷ (if ends_reply m then [] else reply_in cookie later)) else reply_in cookie later) h

-- none of these requests gets the message
module _ (m : Message) (later : List Message) where
  unheard : (e : Operation) → has_cookie e.cookie (cookie_of m) ≡ false → whole_reply (m ∷ later) e ≡ whole_reply later e
  unheard e h = ap (λ l. e.replies ++ (if is_finished e then [] else l)) (passes e.cookie m later h)

  all_unheard : ((cookie : ℕ) → has_cookie cookie (cookie_of m) ≡ false) → (es : List Operation) → map (told (m ∷ later)) es ≡ map (told later) es
  all_unheard h [] = refl
  all_unheard h (e ∷ es) = ap (λ r. (request_of e, outcome_with r) ∷ map (told (m ∷ later)) es) (unheard e (h e.cookie)) ∙ ap (λ l. told later e ∷ l) (all_unheard h es)

  module _ (cookie : ℕ) (is : cookie_of m ≡ Some cookie) where
    not_awaiting : (e : Operation) → is_awaiting cookie e ≡ false → whole_reply (m ∷ later) e ≡ whole_reply later e
    not_awaiting e h = go (is_finished e) (e.cookie == cookie) h (ap (has_cookie e.cookie) is)
      where
        go : (f c : Bool) → (c && not f) ≡ false → has_cookie e.cookie (cookie_of m) ≡ c → e.replies ++ (if f then [] else reply_in e.cookie (m ∷ later)) ≡ e.replies ++ (if f then [] else reply_in e.cookie later)
        go true c h q = refl
        go false true h q = absurd (cc)
        go false false h q = ap (λ l. e.replies ++ l) (passes e.cookie m later q)

    none_awaiting : (es : List Operation) → Free cookie es → map (told (m ∷ later)) es ≡ map (told later) es
    none_awaiting [] f = refl
    none_awaiting (e ∷ es) f = ap (λ r. (request_of e, outcome_with r) ∷ map (told (m ∷ later)) es) (not_awaiting e f.0) ∙ ap (λ l. told later e ∷ l) (none_awaiting es f.1)

    awaiting : (e : Operation) → is_awaiting cookie e ≡ true → whole_reply later (with_reply e m) ≡ whole_reply (m ∷ later) e
    awaiting e h =
        let w = and_parts (e.cookie == cookie) (not (is_finished e)) h in
        let still : is_finished e ≡ false = not-true (is_finished e) w.1 in
        let hears : has_cookie e.cookie (cookie_of m) ≡ true = ap (has_cookie e.cookie) is ∙ w.0 in
        let rest : List Message = if ends_reply m then [] else reply_in e.cookie later in
        let behind : whole_reply later (with_reply e m) ≡ e.replies ++ (m ∷ rest) =
        ap (λ b. (e.replies ++ m ∷ []) ++ (if b then [] else reply_in e.cookie later)) (last_ends e.replies still) ∙ append_assoc e.replies (m ∷ []) rest in
        let before : whole_reply (m ∷ later) e ≡ e.replies ++ (m ∷ rest) =
        ap (λ b. e.replies ++ (if b then [] else reply_in e.cookie (m ∷ later))) still ∙ ap (λ b. e.replies ++ (if b then (m ∷ rest) else reply_in e.cookie later)) hears in
        behind ∙ sym before
      where
        last_ends : (ms : List Message) → list_any ends_reply ms ≡ false → list_any ends_reply (ms ++ m ∷ []) ≡ ends_reply m
        last_ends [] q = or-false (ends_reply m)
        last_ends (n ∷ ms) q = go (ends_reply n) q (last_ends ms)
          where
            go : (b : Bool) → (b || list_any ends_reply ms) ≡ false → (list_any ends_reply ms ≡ false → list_any ends_reply (ms ++ m ∷ []) ≡ ends_reply m) → (b || list_any ends_reply (ms ++ m ∷ [])) ≡ ends_reply m
            go true q ih = absurd (cc)
            go false q ih = ih q

    -- the request that awaits the message gets it
    answered_from : (n : ℕ) (es : List Operation) (k : ℕ) → AreDistinct es → target_from n cookie es ≡ Some k →
        (j : ℕ) × (k ≡ n + suc j) × (map (told later) (with_reply_at (suc j) m es) ≡ map (told (m ∷ later)) es)
    answered_from n [] k d h = absurd (cc)
    answered_from n (e ∷ es) k d h = go (is_awaiting cookie e) refl h (answered_from (suc n) es k d.1)
      where
        go : (b : Bool) → is_awaiting cookie e ≡ b → (if b then Some (suc n) else target_from (suc n) cookie es) ≡ Some k →
            (target_from (suc n) cookie es ≡ Some k → (j : ℕ) × (k ≡ suc n + suc j) × (map (told later) (with_reply_at (suc j) m es) ≡ map (told (m ∷ later)) es)) →
            (j : ℕ) × (k ≡ n + suc j) × (map (told later) (with_reply_at (suc j) m (e ∷ es)) ≡ map (told (m ∷ later)) (e ∷ es))
        go true q h ih =
            let is_next : suc n ≡ k = cc in
            let w = and_parts (e.cookie == cookie) (not (is_finished e)) q in
            let free : Free cookie es = subst (λ c. Free c es) (eqb-true e.cookie cookie w.0) (d.0 (not-true (is_finished e) w.1)) in (
              0,
              omega (arith, is_next),
              ap (λ r. (request_of e, outcome_with r) ∷ map (told later) es) (awaiting e q) ∙ ap (λ l. told (m ∷ later) e ∷ l) (sym (none_awaiting es free)),
            )
        go false q h ih =
            let r = ih h in
            let at : k ≡ suc n + suc r.0 = r.1 in (
              suc r.0,
              omega (arith, at),
              ap (λ l. (request_of e, outcome_with l) ∷ map (told later) (with_reply_at (suc r.0) m es)) (sym (not_awaiting e q)) ∙ ap (λ l. told (m ∷ later) e ∷ l) r.2,
            )

    answered : (core : Core) (k : ℕ) → AreDistinct core.entries → target cookie core.entries ≡ Some k → map (told later) (reply_to (request_of_reply core m) core m).entries ≡ map (told (m ∷ later)) core.entries
    unfolding target
    answered core k d h =
        let r = answered_from 0 core.entries k d h in
        let at : k ≡ suc r.0 = (let q : k ≡ 0 + suc r.0 = r.1 in omega (arith, q)) in
        let found : request_of_reply core m ≡ Some (suc r.0) = ap (λ c. option_and_then (λ k. target k core.entries) c) is ∙ h ∙ ap Some at in
        ap (λ o. map (told later) (reply_to o core m).entries) found ∙ r.2

-- a new request
requested : (x b : Bool) (core : Core) (m : Message) (e : Operation) (later : List Message) → plain x m ≡ request_of e → e.replies ≡ [] →
    map (told later) (core_with_request b core e).entries ++ all_told x later
    ≡ map (told later) core.entries ++ (told_if x m (if b then None else Some (outcome_by (reply_in e.cookie later))) ++ all_told x later)
requested x true core m e later same h = refl
requested x false core m e later same h =
    let outcome_is : outcome_with (whole_reply later e) ≡ outcome_of (outcome_by (reply_in e.cookie later)) =
    ap (λ r. outcome_with (r ++ (if list_any ends_reply r then [] else reply_in e.cookie later))) h ∙ sym (same_outcome (reply_in e.cookie later)) in
    ap (λ l. l ++ all_told x later) (map-append (told later) core.entries (e ∷ [])) ∙ append_assoc (map (told later) core.entries) (told later e ∷ []) (all_told x later)
    ∙ (λ i. map (told later) core.entries ++ ((sym same i, outcome_is i) ∷ all_told x later))

step : (x : Bool) (core : Core) (phase : Phase) (m : Message) (later : List Message) → ((export : Exporting) → phase ≡ Transmission export → x ≡ has_contexts core) → IsAllowed core phase m → AreDistinct core.entries →
    map (told later) (complete core m).entries ++ all_told x later ≡ map (told (m ∷ later)) core.entries ++ all_told x (m ∷ later)
unfolding IsAllowed complete
step x core phase (Greeting flags) later same ok d = ap (λ l. l ++ all_told x later) (sym (all_unheard (Greeting flags) later (λ cookie. refl) core.entries))
step x core phase (ClientFlags flags) later same ok d = ap (λ l. l ++ all_told x later) (sym (all_unheard (ClientFlags flags) later (λ cookie. refl) core.entries))
step x core phase (Choice id p) later same ok d = ap (λ l. l ++ all_told x later) (sym (all_unheard (Choice id p) later (λ cookie. refl) core.entries))
step x core phase (Answer option kind p) later same ok d = ap (λ l. l ++ all_told x later) (sym (all_unheard (Answer option kind p) later (λ cookie. refl) core.entries))
step x core phase (Exported size flags padded) later same ok d = ap (λ l. l ++ all_told x later) (sym (all_unheard (Exported size flags padded) later (λ cookie. refl) core.entries))
step x core phase (Request flags command cookie offset len p) later same ok d =
    requested x (command == commands.DISC) core (Request flags command cookie offset len p) _ later refl refl
    ∙ ap (λ l. l ++ all_told x (Request flags command cookie offset len p ∷ later)) (sym (all_unheard (Request flags command cookie offset len p) later (λ cookie. refl) core.entries))
step x core (Transmission export) (ExtendedRequest flags command cookie offset len p) later same ok d =
    requested x (command == commands.DISC) core (ExtendedRequest flags command cookie offset len p) _ later (ap (λ b. plain b (ExtendedRequest flags command cookie offset len p)) (same export refl)) refl
    ∙ ap (λ l. l ++ all_told x (ExtendedRequest flags command cookie offset len p ∷ later)) (sym (all_unheard (ExtendedRequest flags command cookie offset len p) later (λ cookie. refl) core.entries))
step x core phase (ExtendedRequest flags command cookie offset len p) later same ok d = absurd ok
step x core (Transmission export) (Simple error cookie p) later same ok d = ap (λ l. l ++ all_told x later) (answered (Simple error cookie p) later cookie refl core ok.0 d ok.2)
step x core phase (Simple error cookie p) later same ok d = absurd ok
step x core (Transmission export) (Chunk flags kind cookie p) later same ok d = ap (λ l. l ++ all_told x later) (answered (Chunk flags kind cookie p) later cookie refl core ok.0 d ok.2)
step x core phase (Chunk flags kind cookie p) later same ok d = absurd ok
step x core (Transmission export) (ExtendedChunk flags kind cookie offset p) later same ok d = ap (λ l. l ++ all_told x later) (answered (ExtendedChunk flags kind cookie offset p) later cookie refl core ok.0 d ok.2)
step x core phase (ExtendedChunk flags kind cookie offset p) later same ok d = absurd ok

-- a request as it stands
abbrev as_it_is : Operation → Message × definitions.Outcome
as_it_is e = (request_of e, outcome e)

at_end : (es : List Operation) → map as_it_is es ≡ map (told []) es
at_end [] = refl
at_end (e ∷ es) = ap (λ r. (request_of e, outcome_with r) ∷ map as_it_is es) (sym (none (is_finished e))) ∙ ap (λ l. told [] e ∷ l) (at_end es)
  where
    none : (b : Bool) → e.replies ++ (if b then [] else []) ≡ e.replies
    none true = append-nil e.replies
    none false = append-nil e.replies

-- in transmission the contexts in force stay
contexts_stay : (state : State) (items : List Item) (export : Exporting) → Obeys state items → state.core.phase ≡ Transmission export → in_force (ends_at state items).core ≡ in_force state.core
contexts_stay state [] export ob p = refl
contexts_stay state (Byte s b ∷ items) export ob p = contexts_stay state items export ob.1 p
contexts_stay state (Starts s m ∷ items) export ob p = contexts_stay state items export ob.1 p
contexts_stay state (Completes s m ∷ items) export ob p =
    let may : MayComplete state.core (Transmission export) m = subst (λ phase. MayComplete state.core phase m) p ob.0.0 in
    contexts_stay (after state (Completes s m)) items export ob.1 (transmission_stays state.core export m may ∙ p) ∙ in_force_stays state.core export m may
contexts_stay state (Serves e ∷ items) export ob p = contexts_stay (after state (Serves e)) items export ob.1 p

followed : (state : State) (items : List Item) → Obeys state items → AreDistinct state.core.entries →
    map as_it_is (ends_at state items).core.entries ≡ map (told (completed_messages items)) state.core.entries ++ all_told (has_contexts (ends_at state items).core) (completed_messages items)
followed state [] ob d = at_end state.core.entries ∙ sym (append-nil (map (told []) state.core.entries))
followed state (Byte s b ∷ items) ob d = followed state items ob.1 d
followed state (Starts s m ∷ items) ob d = followed state items ob.1 d
followed state (Completes s m ∷ items) ob d =
    followed (after state (Completes s m)) items ob.1 (distinct_complete state.core state.core.phase m ob.0.0 d)
    ∙ step (has_contexts (ends_at (after state (Completes s m)) items).core) state.core state.core.phase m (completed_messages items)
    (λ export p. ap (λ (cs : List Context). not (length cs == 0)) (contexts_stay state (Completes s m ∷ items) export ob p)) (allowed state.core state.core.phase m ob.0.0) d
followed state (Serves e ∷ items) ob d = followed (after state (Serves e)) items ob.1 d

-- the same of a report
abbrev stated : Asked → Message × definitions.Outcome
stated a = (message_of a, a.outcome)

all_stated : (k : ℕ) (core : Core) (κ : ℕ → Option ℕ) (es : List Operation) → map stated (asked_list k core κ es) ≡ map as_it_is es
all_stated k core κ [] = refl
all_stated k core κ (e ∷ es) = ap (λ l. as_it_is e ∷ l) (all_stated (suc k) core κ es)

-- of a run with open bytes
reported : {profile : Profile} (items : List Item) {client server : List ℕ} → IsRunBut profile items client server → map stated (report items).asked ≡ all_told (has_contexts (ends_at (start_of profile) items).core) (completed_messages items)
unfolding report
reported {profile} items run =
    all_stated 0 (ends_at start items).core (known_count items) (operations_of items) ∙ ap (λ (core : Core). map as_it_is core.entries) (sym (at_base profile items))
    ∙ followed (start_of profile) items run.obeys tt

-- a message with a fate has a number
has_fate_by : (command cookie : ℕ) (later : List Message) → is_some (fate_by command cookie later) ≡ not (command == commands.DISC)
has_fate_by command cookie later = go (command == commands.DISC)
  where
    go : (b : Bool) → is_some (if b then None else Some (outcome_by (reply_in cookie later))) ≡ not b
    go true = refl
    go false = refl

has_fate : (m : Message) (later : List Message) → is_some (fate m later) ≡ is_numbered m
has_fate (Request flags command cookie offset len p) later = has_fate_by command cookie later
has_fate (ExtendedRequest flags command cookie offset len p) later = has_fate_by command cookie later
has_fate m later = refl

-- lines that say what became of the messages say what the requests of a report state
named_by : (x : Bool) {messages : List Message} {lines : List ℕ} → AreLines messages lines → (asked : List Asked) → map stated asked ≡ all_told x messages → AreNamed x messages asked lines
named_by x none [] e = no_names
named_by x none (a ∷ asked) e = absurd (cc)
named_by x (named m later words ending rest feed end tail) asked e = go (fate m later) refl end asked e (named_by x tail)
  where
    text : List ℕ → List ℕ
    text t = words ++ (t ++ (codes "\n" ++ rest))

    go : (o : Option Outcome) → fate m later ≡ o → EndsWith o ending → (asked : List Asked) → map stated asked ≡ told_if x m o ++ all_told x later → ((asked : List Asked) → map stated asked ≡ all_told x later → AreNamed x later asked rest) → AreNamed x (m ∷ later) asked (text ending)
    go None f end asked e ih = subst (λ t. AreNamed x (m ∷ later) asked (text t)) (sym end) (other m later asked words rest (sym (has_fate m later) ∙ ap is_some f) feed (ih asked e))
    go (Some o) f end [] e ih = absurd (cc)
    go (Some o) f end (a ∷ asked) e ih =
        let first : stated a ≡ (plain x m, outcome_of o) = cc in
        let others : map stated asked ≡ all_told x later = cc in
        request a m later asked words ending rest (sym (ap (λ p. p.0) first)) feed (subst (λ x. IsEnding x ending) (sym (ap (λ p. p.1) first)) end) (ih asked others)

-- and so does the report of a run with open bytes in which the messages complete
pub named_by_report : {profile : Profile} {messages : List Message} {lines : List ℕ} → AreLines messages lines → (items : List Item) {client server : List ℕ} → IsRunBut profile items client server → completed_messages items ≡ messages →
    AreNamed (has_contexts (ends_at (start_of profile) items).core) messages (report items).asked lines
named_by_report {profile} lines items run same =
    let x = has_contexts (ends_at (start_of profile) items).core in
    named_by x lines (report items).asked (reported items run ∙ ap (all_told x) same)
