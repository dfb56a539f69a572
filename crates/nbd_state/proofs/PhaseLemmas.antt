-- What a state shows once a message of the negotiation has completed.
use Rattle.nbd_state.proofs.Common.{IsAllowed, allowed, arith, [], true, false, None, carried, chunk_of, core_with_reply, core_with_request, filter_of_head, has_contexts, in_force, operation_of_head, sizes_for, sizes_kept, RequestHead, ◌≡◌, ℕ, ◌<◌, ◌||◌, ◌&&◌, ◌==◌, List, length, refl, sym, ◌∙◌, ap, subst, Option, Some, Bool, slice_get_within, place_at, ask_allow, extended_ask_allow, MayAsk, Message, Greeting, ClientFlags, Choice, Answer, Exported, Request, ExtendedRequest, Simple, Chunk, ExtendedChunk, Sizing, sizing_after, sizing_at, agrees, reply_phase, choice_phase, is_proper_option, next_phase, selection_after, selection_at, takes_contexts, Exporting, AnswersOne, MayComplete, complete, grants_structured, Core, Phase, Answering, Transmission, export_in, Chosen, State, MayTake, IsTransmitting, Selection, HasSelection, Shows, export_shown_if, phase_shown}
use Rattle.nbd_state.specs.{Places.{chunk_with, request_of, request_with}, Shows.export_shown}
use Rattle.nbd_wire.specs.declared.heads.transmission.ChunkHead.{ChunkHead}
use Rattle.nbd_state.proofs.{PlacedLemmas.place_shows_operation, CompletionLemmas.negotiation_is_shown}
use Rattle.nbd_wire.specs.declared.commands.TheConstants as commands
use Rattle.nbd_wire.specs.declared.{options.TheConstants.EXTENDED_HEADERS, answers.TheConstants.ACK}
use Rattle.nbd_state.specs.declared.state.Phase as states
use Rattle.nbd_state.specs.declared.state.Phase.TheVariants as shown

-- after an answer
pub behind_abort : (p : Phase) (option kind : ℕ) (payload : List ℕ) → shown.Aborting ≡ phase_shown p → shown.Ended ≡ phase_shown (next_phase p (Answer option kind payload))
unfolding next_phase
behind_abort p option kind payload e = grind arith

pub behind_option : (c : Chosen) (p : Phase) (option kind : ℕ) (payload : List ℕ) (r : states.Phase) → shown.Answering c ≡ phase_shown p →
    ((given : List ℕ) (info : Option Exporting) → c.proper ≡ is_proper_option c.option given → c.takes ≡ takes_contexts c.option given → c.info ≡ export_shown_if info → r ≡ phase_shown (reply_phase c.option given info kind payload)) →
    r ≡ phase_shown (next_phase p (Answer option kind payload))
unfolding next_phase
behind_option c (Answering asked given info) option kind payload r e f =
    let s : c ≡ record { option = asked; proper = is_proper_option asked given; takes = takes_contexts asked given; info = export_shown_if info } = cc in
    f given info (ap (λ (x : Chosen). x.proper) s ∙ ap (λ o. is_proper_option o given) (sym (ap (λ (x : Chosen). x.option) s)))
    (ap (λ (x : Chosen). x.takes) s ∙ ap (λ o. takes_contexts o given) (sym (ap (λ (x : Chosen). x.option) s))) (ap (λ (x : Chosen). x.info) s)
    ∙ ap (λ o. phase_shown (reply_phase o given info kind payload)) (ap (λ (x : Chosen). x.option) s)
behind_option c p option kind payload r e f = grind arith

pub behind_none : (x : states.Phase) (p : Phase) (option kind : ℕ) (payload : List ℕ) → (x ≡ shown.Aborting → ⊥) → ((c : Chosen) → x ≡ shown.Answering c → ⊥) → x ≡ phase_shown p → x ≡ phase_shown (next_phase p (Answer option kind payload))
unfolding next_phase
behind_none x p option kind payload na nb e = grind arith

chooses : (core : Core) (p : Phase) (id : ℕ) (payload : List ℕ) → MayComplete core p (Choice id payload) → (export_in p ≡ None) × (phase_shown (choice_phase id payload) ≡ phase_shown (next_phase p (Choice id payload)))
unfolding IsAllowed next_phase
chooses core p id payload ok = grind (arith, allowed core p (Choice id payload) ok)

answers : (core : Core) (p : Phase) (option kind : ℕ) (payload : List ℕ) → MayComplete core p (Answer option kind payload) → export_in p ≡ None
unfolding IsAllowed
answers core p option kind payload ok = grind (arith, allowed core p (Answer option kind payload) ok)

exports : (core : Core) (p : Phase) (size flags : ℕ) (padded : Bool) → MayComplete core p (Exported size flags padded) →
    (export_in p ≡ None) × (shown.Transmission (record { size = size; flags = flags }) ≡ phase_shown (next_phase p (Exported size flags padded)))
unfolding IsAllowed next_phase
exports core p size flags padded ok = grind (arith, allowed core p (Exported size flags padded) ok)

asked_in : (core : Core) (p : Phase) (flags command cookie offset len : ℕ) (payload : List ℕ) → MayComplete core p (Request flags command cookie offset len payload) →
    (export : Exporting) × (p ≡ Transmission export) × MayAsk (command == commands.DISC) core cookie offset len
unfolding IsAllowed
asked_in core p flags command cookie offset len payload ok = grind (arith, ask_allow, allowed core p (Request flags command cookie offset len payload) ok)

extended_asked_in : (core : Core) (p : Phase) (flags command cookie offset len : ℕ) (payload : List ℕ) → MayComplete core p (ExtendedRequest flags command cookie offset len payload) →
    (export : Exporting) × (p ≡ Transmission export) × MayAsk (command == commands.DISC) core cookie offset len
unfolding IsAllowed
extended_asked_in core p flags command cookie offset len payload ok = grind (arith, extended_ask_allow, allowed core p (ExtendedRequest flags command cookie offset len payload) ok)

pub simple_in : (core : Core) (p : Phase) (error cookie : ℕ) (payload : List ℕ) → MayComplete core p (Simple error cookie payload) →
    (export : Exporting) × (p ≡ Transmission export) × AnswersOne core export cookie (Simple error cookie payload)
unfolding IsAllowed
simple_in core p error cookie payload ok = grind (arith, allowed core p (Simple error cookie payload) ok)

chunk_in : (core : Core) (p : Phase) (flags kind cookie : ℕ) (payload : List ℕ) → MayComplete core p (Chunk flags kind cookie payload) →
    (export : Exporting) × (p ≡ Transmission export) × AnswersOne core export cookie (Chunk flags kind cookie payload)
unfolding IsAllowed
chunk_in core p flags kind cookie payload ok = grind (arith, allowed core p (Chunk flags kind cookie payload) ok)

extended_chunk_in : (core : Core) (p : Phase) (flags kind cookie offset : ℕ) (payload : List ℕ) → MayComplete core p (ExtendedChunk flags kind cookie offset payload) →
    (export : Exporting) × (p ≡ Transmission export) × AnswersOne core export cookie (ExtendedChunk flags kind cookie offset payload)
unfolding IsAllowed
extended_chunk_in core p flags kind cookie offset payload ok = grind (arith, allowed core p (ExtendedChunk flags kind cookie offset payload) ok)

module _ (old new : State) (core : Core) (s : Shows old core) where
  pub shows_greeted : (flags : ℕ) → MayComplete core core.phase (Greeting flags) → new ≡ record old { phase = shown.Flags; offered = flags } → Shows new (complete core (Greeting flags))
  unfolding complete IsAllowed next_phase
  shows_greeted flags ok made = grind (arith, negotiation_is_shown, allowed core core.phase (Greeting flags) ok)

  pub shows_flags : (flags : ℕ) → MayComplete core core.phase (ClientFlags flags) → new ≡ record old { phase = shown.Choosing; client_flags = flags } → Shows new (complete core (ClientFlags flags))
  unfolding complete IsAllowed next_phase
  shows_flags flags ok made = grind (arith, negotiation_is_shown, allowed core core.phase (ClientFlags flags) ok)

  pub shows_chosen : (id : ℕ) (payload : List ℕ) (phase : states.Phase) (selection : Selection) (agreed : Bool) (sizing : Sizing) → MayComplete core core.phase (Choice id payload) → phase ≡ phase_shown (choice_phase id payload) →
      agreed ≡ (core.structured && agrees id payload core.selection) → HasSelection selection (selection_at id payload core.selection) → sizing ≡ sizing_at id payload → new ≡ record old { phase = phase; selection = selection; brings_contexts = agreed; sizing = sizing } → Shows new (complete core (Choice id payload))
  unfolding complete
  shows_chosen id payload phase selection agreed sizing ok is brings_contexts_is selected sized made =
      let r = chooses core core.phase id payload ok in
      negotiation_is_shown old new core (complete core (Choice id payload)) s r.0 refl refl refl (ap (λ (z : State). z.exchanges) made) (ap (λ (z : State). z.outstanding) made)
      (ap (λ (z : State). z.profile) made ∙ s.profile_is)
      (ap (λ (z : State). z.phase) made ∙ is ∙ r.1) (ap (λ (z : State). z.offered) made ∙ s.offered_is) (ap (λ (z : State). z.client_flags) made ∙ s.client_flags_are)
      (ap (λ (z : State). z.structured) made ∙ s.structured_is) (ap (λ (z : State). z.extended) made ∙ s.extended_is) (ap (λ (z : State). z.disconnected) made ∙ s.disconnected_is)
      (subst (λ z. HasSelection z (selection_at id payload core.selection)) (sym (ap (λ (z : State). z.selection) made)) selected) (ap (λ (z : State). z.brings_contexts) made ∙ brings_contexts_is) (ap (λ (z : State). z.sizing) made ∙ sized)

  pub shows_answered : (option kind : ℕ) (payload : List ℕ) (phase : states.Phase) (grants extends : Bool) (selection : Selection) (sizing : Sizing) → MayComplete core core.phase (Answer option kind payload) →
      phase ≡ phase_shown (next_phase core.phase (Answer option kind payload)) → grants ≡ grants_structured option kind → extends ≡ ((option == EXTENDED_HEADERS) && (kind == ACK)) → HasSelection selection (selection_after core.phase kind payload core.selection) → sizing ≡ sizing_after kind payload core.sizing →
      new ≡ record old { phase = phase; structured = old.structured || grants; extended = old.extended || extends; selection = selection; sizing = sizing } → Shows new (complete core (Answer option kind payload))
  unfolding complete
  shows_answered option kind payload phase grants extends selection sizing ok is granted extended selected sized made =
      negotiation_is_shown old new core (complete core (Answer option kind payload)) s (answers core core.phase option kind payload ok) refl refl refl (ap (λ (z : State). z.exchanges) made) (ap (λ (z : State). z.outstanding) made)
      (ap (λ (z : State). z.profile) made ∙ s.profile_is)
      (ap (λ (z : State). z.phase) made ∙ is) (ap (λ (z : State). z.offered) made ∙ s.offered_is) (ap (λ (z : State). z.client_flags) made ∙ s.client_flags_are)
      (ap (λ (z : State). z.structured) made ∙ ap (λ b. b || grants) s.structured_is ∙ ap (λ b. core.structured || b) granted)
      (ap (λ (z : State). z.extended) made ∙ ap (λ b. b || extends) s.extended_is ∙ ap (λ b. core.extended || b) extended) (ap (λ (z : State). z.disconnected) made ∙ s.disconnected_is)
      (subst (λ z. HasSelection z (selection_after core.phase kind payload core.selection)) (sym (ap (λ (z : State). z.selection) made)) selected) (ap (λ (z : State). z.brings_contexts) made ∙ s.brings_contexts_is) (ap (λ (z : State). z.sizing) made ∙ sized)

  pub shows_exported : (size flags : ℕ) (padded : Bool) (phase : states.Phase) → MayComplete core core.phase (Exported size flags padded) → phase ≡ shown.Transmission (record { size = size; flags = flags }) → new ≡ record old { phase = phase } → Shows new (complete core (Exported size flags padded))
  unfolding complete
  shows_exported size flags padded phase ok is made =
      let r = exports core core.phase size flags padded ok in
      negotiation_is_shown old new core (complete core (Exported size flags padded)) s r.0 refl refl refl (ap (λ (z : State). z.exchanges) made) (ap (λ (z : State). z.outstanding) made)
      (ap (λ (z : State). z.profile) made ∙ s.profile_is)
      (ap (λ (z : State). z.phase) made ∙ is ∙ r.1) (ap (λ (z : State). z.offered) made ∙ s.offered_is) (ap (λ (z : State). z.client_flags) made ∙ s.client_flags_are)
      (ap (λ (z : State). z.structured) made ∙ s.structured_is) (ap (λ (z : State). z.extended) made ∙ s.extended_is) (ap (λ (z : State). z.disconnected) made ∙ s.disconnected_is)
      (subst (λ z. HasSelection z core.selection) (sym (ap (λ (z : State). z.selection) made)) s.selection_is) (ap (λ (z : State). z.brings_contexts) made ∙ s.brings_contexts_is) (ap (λ (z : State). z.sizing) made ∙ s.sizing_is)

-- what is said of the message that was matched
pub shows_same : {new : State} (core : Core) (m n : Message) → m ≡ n → Shows new (complete core n) → Shows new (complete core m)
shows_same {new} core m n e s = subst (λ x. Shows new (complete core x)) (sym e) s

-- a request, by whichever header
pub requested_in : (core : Core) (p : Phase) (head : RequestHead) (payload : List ℕ) → MayComplete core p (request_of head payload) →
    (export : Exporting) × (p ≡ Transmission export) × MayAsk (head.command == commands.DISC) core head.cookie head.offset head.length
requested_in core p head payload ok = go head.extended ok
  where
    go : (extended : Bool) → MayComplete core p (request_with extended head.flags head.command head.cookie head.offset head.length payload) →
        (export : Exporting) × (p ≡ Transmission export) × MayAsk (head.command == commands.DISC) core head.cookie head.offset head.length
    go false ok = asked_in core p head.flags head.command head.cookie head.offset head.length payload ok
    go true ok = extended_asked_in core p head.flags head.command head.cookie head.offset head.length payload ok

pub request_completes : (core : Core) (head : RequestHead) (payload : List ℕ) → complete core (request_of head payload) ≡ core_with_request (head.command == commands.DISC) core
    (operation_of_head head (carried head payload) (in_force core) (filter_of_head (has_contexts core) head payload) (sizes_for core.structured head.command (sizes_kept core.sizing)) [])
unfolding complete
request_completes core head payload = go head.extended refl
  where
    go : (extended : Bool) → head.extended ≡ extended → complete core (request_of head payload) ≡ core_with_request (head.command == commands.DISC) core
        (operation_of_head head (carried head payload) (in_force core) (filter_of_head (has_contexts core) head payload) (sizes_for core.structured head.command (sizes_kept core.sizing)) [])
    go false e = grind arith
    go true e = grind arith

-- where one may complete, the state is in transmission
pub request_transmits : (state : State) (m : Message) (head : RequestHead) (payload : List ℕ) → MayTake state m → m ≡ request_of head payload → IsTransmitting state.phase
request_transmits state m head payload t e =
    let a = requested_in t.core t.core.phase head payload (subst (λ n. MayComplete t.core t.core.phase n) e t.completes) in
    (export_shown a.0, t.shows.phase_is ∙ ap phase_shown a.1)

-- a chunk, by whichever header
pub chunked_in : (core : Core) (p : Phase) (head : ChunkHead) (payload : List ℕ) → MayComplete core p (chunk_of head payload) →
    (export : Exporting) × (p ≡ Transmission export) × AnswersOne core export head.cookie (chunk_of head payload)
chunked_in core p head payload ok = go head.at ok
  where
    go : (at : Option ℕ) → MayComplete core p (chunk_with at head.flags head.kind head.cookie payload) →
        (export : Exporting) × (p ≡ Transmission export) × AnswersOne core export head.cookie (chunk_with at head.flags head.kind head.cookie payload)
    go None ok = chunk_in core p head.flags head.kind head.cookie payload ok
    go (Some offset) ok = extended_chunk_in core p head.flags head.kind head.cookie offset payload ok

pub chunk_completes : (core : Core) (head : ChunkHead) (payload : List ℕ) → complete core (chunk_of head payload) ≡ core_with_reply core (chunk_of head payload)
unfolding complete
chunk_completes core head payload = go head.at
  where
    go : (at : Option ℕ) → complete core (chunk_with at head.flags head.kind head.cookie payload) ≡ core_with_reply core (chunk_with at head.flags head.kind head.cookie payload)
    go None = refl
    go (Some offset) = refl

-- the request that a reply answers has its exchange
answered : (state : State) (core : Core) (export : Exporting) (cookie place : ℕ) → Shows state core → core.phase ≡ Transmission export → place_at state.outstanding cookie ≡ Some place → place < length state.exchanges.items
answered state core export cookie place s p g =
    let placed = place_shows_operation state core export cookie place s p g in
    slice_get_within state.exchanges.items place placed.x placed.stands

pub answered_simple : (state : State) (error cookie : ℕ) (payload : List ℕ) (place : ℕ) → MayTake state (Simple error cookie payload) → place_at state.outstanding cookie ≡ Some place → place < length state.exchanges.items
answered_simple state error cookie payload place t g = grind (arith, simple_in, answered)

pub answered_chunk : (state : State) (m : Message) (head : ChunkHead) (payload : List ℕ) (place : ℕ) → MayTake state m → m ≡ chunk_of head payload → place_at state.outstanding head.cookie ≡ Some place → place < length state.exchanges.items
answered_chunk state m head payload place t e g =
    let a = chunked_in t.core t.core.phase head payload (subst (λ n. MayComplete t.core t.core.phase n) e t.completes) in
    answered state t.core a.0 head.cookie place t.shows a.1 g
