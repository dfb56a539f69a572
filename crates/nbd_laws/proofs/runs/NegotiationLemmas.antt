-- A session begins with a greeting and flags, and each answer follows a choice.
use Rattle.nbd_laws.proofs.Common.{append-nil, and_parts, not-false, not-true, or_cases, or_parts, client_flags_fault, is_error, eq-eqb, ◌≡◌, ℕ, zero, suc, ◌⊎◌, ◌==◌, List, [], ◌∷◌, refl, sym, ◌∙◌, ap, subst, inl, Option, Some, None, if◌then◌else◌, IsTrue, arith, eqb-true, and_le_r, Server, Message, Greeting, ClientFlags, Choice, Answer, Exported, Completes, completed_messages, selection_after, is_proper_option, last_info, next_phase, info_of, context_of, Exporting, has, has_only, complete, Core, Phase, Greet, Flags, Choosing, Naming, Aborting, Answering, Transmission, start_of, AnswersFollowChoices, AreFairFlags, BeginsWithFlags, Chosen, HandshakesAreFair, IsAnswer, choice_after, contexts_after, contexts_with, info_after, Context, Selection, Profile, eqb-false}
use Rattle.nbd_laws.proofs.{judge.{WholeLemmas.allowed, AllowLemmas.{IsSuccess, abort_allow, answer_allow, greeting_allow}, BoolLemmas.fault_none}, runs.{PrefixLemmas.{phase-complete, transmission_row}, ProfileLemmas.profile_end, ReachLemmas.{Passes, led, parts_pass, run_leads, run_passes}}}
unfoldable use Rattle.nbd_laws.proofs.judge.WholeLemmas.{IsAllowed}
use Rattle.std.proofs.Common.{bit_and}
use Rattle.nbd_wire.specs.declared.answers.TheConstants as answers
use Rattle.nbd_wire.specs.declared.handshake.TheConstants as handshake
use Rattle.nbd_wire.specs.declared.options.TheConstants as options

fair : (offered flags : ℕ) → client_flags_fault offered flags ≡ None → AreFairFlags offered flags
unfolding has has_only
fair offered (suc zero) e = inl refl
fair offered (suc (suc (suc zero))) e = grind (arith, fault_none, not-false)
fair offered (suc (suc (suc (suc n)))) e = grind (arith, bit_and, eqb-true, fault_none, or_parts, not-false, and_le_r (suc (suc (suc (suc n)))) 3)
fair offered flags e = grind (arith, fault_none, or_parts, not-false)

flags_first : (ms : List Message) (core : Core) → Passes core ms → core.phase ≡ Flags → BeginsWithFlags core.offered ms
unfolding IsAllowed
flags_first [] core f p = inl refl
flags_first (m ∷ ms) core f p = grind (arith, fair, allowed core core.phase m f.1)

abbrev BeginsFairly : List Message → Type 0
BeginsFairly messages = (messages ≡ []) ⊎ ((flags : ℕ) × (rest : List Message) × (messages ≡ Greeting flags ∷ rest) × IsTrue (has flags handshake.FIXED_NEWSTYLE) × BeginsWithFlags flags rest)

greeting_first : (ms : List Message) (core : Core) → Passes core ms → core.phase ≡ Greet → BeginsFairly ms
unfolding complete next_phase IsAllowed
greeting_first [] core f p = inl refl
greeting_first (m ∷ ms) core f p = grind (arith, greeting_allow, flags_first, allowed core core.phase m f.1)

pub handshakes_are_fair : HandshakesAreFair
handshakes_are_fair profile items run = greeting_first (completed_messages items) (start_of profile).core (run_passes items run) refl

-- what the phase and what is selected know of the choice, its infos and its contexts
abbrev Knows : Phase → Selection → Option Chosen → Option Exporting → List Context → Type 0
Knows (Answering asked asked_with info) selection choice last told =
    (choice ≡ Some (record { option = asked; payload = asked_with })) × (last ≡ info) × (asked ≡ options.SET_META_CONTEXT → selection.contexts ≡ told)
Knows Aborting selection choice last told = (asked_with : List ℕ) × (choice ≡ Some (record { option = options.ABORT; payload = asked_with }))
Knows _ selection choice last told = Unit {0}

abbrev info_then : ℕ → List ℕ → Option Exporting → Option Exporting
info_then kind p last = if kind == answers.INFO then last_info (info_of p) last else last

abbrev told_then : ℕ → List ℕ → List Context → List Context
told_then kind p told = if kind == answers.META_CONTEXT then contexts_with (context_of p) told else told

module _ (asked : ℕ) (asked_with : List ℕ) (info : Option Exporting) (kind : ℕ) (p : List ℕ) (selection : Selection) (choice : Option Chosen) (last : Option Exporting) (told : List Context)
    (k : Knows (Answering asked asked_with info) selection choice last told) where
  abbrev later : Selection
  later = selection_after (Answering asked asked_with info) kind p selection

-- what one message does to the choice, its infos and its contexts
abbrev choice_step : Option Chosen → Message → Option Chosen
choice_step last (Choice id p) = Some (record { option = id; payload = p })
choice_step last m = last

abbrev info_step : Option Exporting → Message → Option Exporting
info_step last (Choice id p) = None
info_step last (Answer option kind p) = info_then kind p last
info_step last m = last

abbrev told_step : List Context → Message → List Context
told_step told (Choice id p) = []
told_step told (Answer option kind p) = told_then kind p told
told_step told m = told

knows_answered : (core : Core) (asked : ℕ) (asked_with : List ℕ) (info : Option Exporting) (option kind : ℕ) (p : List ℕ) (choice : Option Chosen) (last : Option Exporting) (told : List Context) → core.phase ≡ Answering asked asked_with info →
    Knows (Answering asked asked_with info) core.selection choice last told →
    Knows (complete core (Answer option kind p)).phase (complete core (Answer option kind p)).selection (choice_step choice (Answer option kind p)) (info_step last (Answer option kind p)) (told_step told (Answer option kind p))
unfolding complete next_phase
knows_answered core asked asked_with info option kind p choice last told q k = grind (arith, eqb-true, or_cases, eqb-false, append-nil)

knows_complete : (core : Core) (phase : Phase) (m : Message) (choice : Option Chosen) (last : Option Exporting) (told : List Context) → core.phase ≡ phase → IsAllowed core phase m → Knows phase core.selection choice last told →
    Knows (complete core m).phase (complete core m).selection (choice_step choice m) (info_step last m) (told_step told m)
unfolding IsAllowed complete next_phase
knows_complete core (Transmission export) m choice last told q ok k = grind (arith, phase-complete, transmission_row)
knows_complete core Greet (Greeting flags) choice last told q ok k = subst (λ phase. Knows (next_phase phase (Greeting flags)) core.selection choice last told) (sym q) tt
knows_complete core Flags (ClientFlags flags) choice last told q ok k = subst (λ phase. Knows (next_phase phase (ClientFlags flags)) core.selection choice last told) (sym q) tt
knows_complete core Choosing (Choice id p) choice last told q ok k = grind (arith, eqb-false, eqb-true)
knows_complete core Naming (Exported size flags padded) choice last told q ok k = subst (λ phase. Knows (next_phase phase (Exported size flags padded)) core.selection choice last told) (sym q) tt
knows_complete core Aborting (Answer option kind p) choice last told q ok k = grind arith
knows_complete core (Answering asked asked_with info) (Answer option kind p) choice last told q ok k = knows_answered core asked asked_with info option kind p choice last told q k
knows_complete core phase m choice last told q ok k = absurd ok

-- after messages that may complete
knows_led : (ms : List Message) (core : Core) (choice : Option Chosen) (last : Option Exporting) (told : List Context) → Passes core ms → Knows core.phase core.selection choice last told →
    Knows (led core ms).phase (led core ms).selection (choice_after choice ms) (info_after last ms) (contexts_after told ms)
knows_led [] core choice last told f k = k
knows_led (m ∷ ms) core choice last told f k = grind (arith, knows_complete, allowed, knows_led ms (complete core m) (choice_step choice m) (info_step last m) (told_step told m) f.2 (knows_complete core core.phase m choice last told refl (allowed core core.phase m f.1) k))

-- an answer to the option that was chosen last
abbrev IsFollowing : Profile → (choice : Option Chosen) (last : Option Exporting) (told : List Context) (option kind : ℕ) (p : List ℕ) → Type 0
IsFollowing profile choice last told option kind p = (asked : Chosen) × (choice ≡ Some asked) × (asked.option ≡ option) × IsAnswer profile asked last told kind p

module _ (profile : Profile) (asked : ℕ) (asked_with : List ℕ) (info : Option Exporting) (told : List Context) (kind : ℕ) (p : List ℕ) where
  abbrev IsOne : Type 0
  IsOne = IsAnswer profile (record { option = asked; payload = asked_with }) info told kind p

  is_answer : (selection : Selection) → (asked ≡ options.SET_META_CONTEXT → selection.contexts ≡ told) → IsTrue (is_error kind) ⊎ IsSuccess profile asked asked_with info selection kind p → IsOne
  is_answer selection same ok = grind (arith, or_cases, eqb-true, and_parts, fault_none, eq-eqb, not-true)

follow : (core : Core) (phase : Phase) (option kind : ℕ) (p : List ℕ) (choice : Option Chosen) (last : Option Exporting) (told : List Context) → IsAllowed core phase (Answer option kind p) → Knows phase core.selection choice last told →
    IsFollowing core.profile choice last told option kind p
unfolding IsAllowed is_proper_option
follow core Aborting option kind p choice last told ok k = grind (arith, abort_allow)
follow core (Answering asked asked_with info) option kind p choice last told ok k =
    let a = answer_allow core.profile asked asked_with info core.selection option kind p ok.0 ok.1 in
    let one = is_answer core.profile asked asked_with info told kind p core.selection k.2 a.1 in
    grind (arith, a, one)
follow core phase option kind p choice last told ok k = absurd ok

pub answers_follow_choices : AnswersFollowChoices
answers_follow_choices profile prefix back option kind p run =
    let first : Core = (start_of profile).core in
    let ms : List Message = completed_messages prefix in
    let f = parts_pass prefix (Completes Server (Answer option kind p) ∷ back) run in
    subst (λ v. IsFollowing v (choice_after None ms) (info_after None ms) (contexts_after [] ms) option kind p) (ap (λ (c : Core). c.profile) (run_leads profile prefix) ∙ profile_end profile prefix)
    (follow (led first ms) (led first ms).phase option kind p (choice_after None ms) (info_after None ms) (contexts_after [] ms) (allowed (led first ms) (led first ms).phase (Answer option kind p) f.1.1) (knows_led ms first None None [] f.0 tt))
