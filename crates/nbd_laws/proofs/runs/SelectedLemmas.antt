-- The contexts in force are those that one sees looking back over the completed messages.
use Rattle.nbd_laws.proofs.Common.{option_to_list, and_parts, or_cases, ◌≡◌, ◌≢◌, ℕ, ◌⊎◌, ◌<◌, ◌^◌, ◌==◌, ◌&&◌, ◌||◌, List, [], ◌∷◌, ◌++◌, map, refl, sym, ◌∙◌, ap, subst, inl, inr, Option, Some, None, Bool, true, false, if◌then◌else◌, IsTrue, arith, append_assoc, append-nil, eqb-true, list_any, big_bytes, Message, Choice, Answer, Context, Selection, AreBytes, has, HasContextForm, HasGoForm, completed_messages, Exporting, ack_phase, agrees, choice_phase, is_error, is_proper_option, last_info, next_phase, reply_phase, selection_after, selection_at, selection_told, context_of, info_of, is_go, name_in, queries_of, MayComplete, complete, ends_at, grants_structured, IsSendable, Core, Phase, Choosing, Aborting, Answering, Transmission, in_force, start_of, go-only, is_go-exact, context-long, context-reads, name_is, queries_of-form, queries_of-found, AreSelected, ChooseNone, ChooseNoOther, ContextsAreSelected, telling, eqb-false, All-cons, All-head, All-nil, All-tail, All-weaker, list_any-append, or-false, bytes_eq-Decides}
use Rattle.nbd_laws.proofs.{judge.{WholeLemmas.allowed, AllowLemmas.{abort_allow, answer_allow}}, runs.{PrefixLemmas.{phase-complete, transmission_row}, ReachLemmas.{Passes, led, led-append, passes-append, run_leads, run_passes}}}
unfoldable use Rattle.nbd_laws.proofs.judge.WholeLemmas.{IsAllowed}
use Rattle.std.proofs.Common.{ne_eqb}
use Rattle.std.specs.Prelude.{All}
use Rattle.nbd_wire.specs.declared.answers.TheConstants as answers
use Rattle.nbd_wire.specs.declared.options.TheConstants as options
use Rattle.nbd_laws.specs.Selecting.{Names}

-- an option is chosen in one phase alone
chosen_in : (phase : Phase) (core : Core) (id : ℕ) (p : List ℕ) → MayComplete core phase (Choice id p) → phase ≡ Choosing
unfolding IsAllowed
chosen_in phase core id p ok = grind (arith, allowed core phase (Choice id p) ok)

-- what each message leads to
choice-phase : (core : Core) (id : ℕ) (p : List ℕ) → core.phase ≡ Choosing → (complete core (Choice id p)).phase ≡ choice_phase id p
unfolding complete next_phase
choice-phase core id p at = ap (λ phase. next_phase phase (Choice id p)) at

choice-selection : (core : Core) (id : ℕ) (p : List ℕ) → (complete core (Choice id p)).selection ≡ selection_at id p core.selection
unfolding complete
choice-selection core id p = refl

answer-phase : (core : Core) (asked : ℕ) (p : List ℕ) (info : Option Exporting) (option kind : ℕ) (answer : List ℕ) → core.phase ≡ Answering asked p info → (complete core (Answer option kind answer)).phase ≡ reply_phase asked p info kind answer
unfolding complete next_phase
answer-phase core asked p info option kind answer at = ap (λ phase. next_phase phase (Answer option kind answer)) at

answer-selection : (core : Core) (asked : ℕ) (p : List ℕ) (info : Option Exporting) (option kind : ℕ) (answer : List ℕ) → core.phase ≡ Answering asked p info →
    (complete core (Answer option kind answer)).selection ≡ (if asked == options.SET_META_CONTEXT then selection_told kind answer core.selection else core.selection)
unfolding complete
answer-selection core asked p info option kind answer at = ap (λ phase. selection_after phase kind answer core.selection) at

granted-phase : (asked : List ℕ) (info : Option Exporting) (answer : List ℕ) → reply_phase options.SET_META_CONTEXT asked info answers.ACK answer ≡ Choosing
unfolding has
granted-phase asked info answer = grind arith

abbrev one_more : Selection → Context → Selection
one_more selection context = record selection { contexts = selection.contexts ++ context ∷ [] }

-- a context is read from what tells it
context_back : (context : Context) → context.id < 2 ^ 32 → context_of (big_bytes 4 context.id ++ context.name) ≡ Some context
context_back context l = grind (arith, context-long)

context_form : (context : Context) (answer : List ℕ) → AreBytes answer → context_of answer ≡ Some context → (context.id < 2 ^ 32) × (answer ≡ big_bytes 4 context.id ++ context.name)
unfolding HasContextForm
context_form context answer b e = (context-reads (λ (c : Context). c) (Some context) answer b (sym e) context).0 refl

telling-phase : (core : Core) (asked : List ℕ) (info : Option Exporting) (context : Context) → core.phase ≡ Answering options.SET_META_CONTEXT asked info → (complete core (telling context)).phase ≡ Answering options.SET_META_CONTEXT asked info
unfolding has
telling-phase core asked info context at =
    answer-phase core options.SET_META_CONTEXT asked info options.SET_META_CONTEXT answers.META_CONTEXT (big_bytes 4 context.id ++ context.name) at
    ∙ (grind arith)

telling-selection : (core : Core) (asked : List ℕ) (info : Option Exporting) (context : Context) → core.phase ≡ Answering options.SET_META_CONTEXT asked info → context.id < 2 ^ 32 →
    (complete core (telling context)).selection ≡ one_more core.selection context
telling-selection core asked info context at l =
    answer-selection core options.SET_META_CONTEXT asked info options.SET_META_CONTEXT answers.META_CONTEXT (big_bytes 4 context.id ++ context.name) at
    ∙ ap (λ o. record core.selection { contexts = core.selection.contexts ++ option_to_list o }) (context_back context l)

-- the answer that grants what SET_META_CONTEXT selected, and the one that puts structured replies in force
abbrev granting : Message
granting = Answer options.SET_META_CONTEXT answers.ACK []

abbrev structuring : ℕ → Message
structuring option = Answer option answers.ACK []

abbrev IsStructuring : ℕ → Type 0
IsStructuring option = (option ≡ options.STRUCTURED_REPLY) ⊎ (option ≡ options.EXTENDED_HEADERS)

granting-phase : (core : Core) (asked : List ℕ) (info : Option Exporting) → core.phase ≡ Answering options.SET_META_CONTEXT asked info → (complete core granting).phase ≡ Choosing
granting-phase core asked info at = answer-phase core options.SET_META_CONTEXT asked info options.SET_META_CONTEXT answers.ACK [] at ∙ granted-phase asked info []

granting-selection : (core : Core) (asked : List ℕ) (info : Option Exporting) → core.phase ≡ Answering options.SET_META_CONTEXT asked info → (complete core granting).selection ≡ record core.selection { granted = true }
granting-selection core asked info at = answer-selection core options.SET_META_CONTEXT asked info options.SET_META_CONTEXT answers.ACK [] at

-- an answer is an error, or where the option is proper an ACK without payload or of another kind, to SET_META_CONTEXT a
-- context
abbrev IsSaid : (asked : ℕ) (p : List ℕ) (kind : ℕ) (answer : List ℕ) → Type 0
IsSaid asked p kind answer =
    IsTrue (is_error kind)
    ⊎ IsTrue (is_proper_option asked p) × ((kind ≡ answers.ACK) × (answer ≡ [])
    ⊎ (kind ≢ answers.ACK) × (asked ≡ options.SET_META_CONTEXT → (kind ≡ answers.META_CONTEXT) × ((context : Context) × (context_of answer ≡ Some context))))

grants_both : (option kind : ℕ) → grants_structured option kind ≡ true → IsStructuring option × (kind ≡ answers.ACK)
grants_both option kind e = grind (arith, and_parts, or_cases, eqb-true)

proper_set : (p : List ℕ) → IsTrue (is_proper_option options.SET_META_CONTEXT p) → (count : ℕ) × (queries_of p ≡ Some count)
unfolding is_proper_option
proper_set p h = grind arith

choice_bytes : (id : ℕ) (p : List ℕ) → IsSendable (Choice id p) → AreBytes p
unfolding IsSendable
choice_bytes id p sn = sn.1.1

-- the answer to an option that was asked
said_in : (core : Core) (asked : ℕ) (p : List ℕ) (info : Option Exporting) (option kind : ℕ) (answer : List ℕ) → IsAllowed core (Answering asked p info) (Answer option kind answer) →
    (option ≡ asked) × IsSaid asked p kind answer
unfolding IsAllowed
said_in core asked p info option kind answer ok =
    let a = answer_allow core.profile asked p info core.selection option kind answer ok.0 ok.1 in
    (a.0, (grind (arith, eqb-true, or_cases, and_parts)))

module _ (asked : ℕ) (p : List ℕ) (kind : ℕ) (answer : List ℕ) (is : IsSaid asked p kind answer) where
  empty_ack : kind ≡ answers.ACK → answer ≡ []
  unfolding has
  empty_ack a = grind (arith, is)

-- another message than one that chooses SET_META_CONTEXT, and than one that chooses
abbrev IsOther : Message → Type 0
IsOther m = (payload : List ℕ) → m ≢ Choice options.SET_META_CONTEXT payload

abbrev IsNoChoice : Message → Type 0
IsNoChoice m = (id : ℕ) (payload : List ℕ) → m ≢ Choice id payload

-- a message that puts structured replies in force
abbrev gives_structure : Message → Bool
gives_structure (Answer option kind p) = grants_structured option kind
gives_structure m = false

abbrev any : List Message → Bool
any messages = list_any gives_structure messages

-- what a message does to the selection
abbrev selection_then : Phase → Message → Selection → Selection
selection_then phase (Choice id p) selection = selection_at id p selection
selection_then phase (Answer option kind p) selection = selection_after phase kind p selection
selection_then phase m selection = selection

-- what each message does
record IsTurned (core now : Core) (m : Message) : Type 0 where
  structured_is : now.structured ≡ (core.structured || gives_structure m)
  agreed_is : IsNoChoice m → now.brings_contexts ≡ core.brings_contexts
  selection_is : now.selection ≡ selection_then core.phase m core.selection
  phase_is : (now.phase ≡ core.phase) ⊎ (now.phase ≡ next_phase core.phase m)

-- what stays in transmission
record IsSteady (core now : Core) : Type 0 where
  selection_is : now.selection ≡ core.selection
  agreed_is : now.brings_contexts ≡ core.brings_contexts
  structured_is : now.structured ≡ (core.structured || false)
  phase_is : now.phase ≡ core.phase

turned : (core : Core) (m : Message) → IsTurned core (complete core m) m
unfolding complete
turned core m = grind (arith, or-false)

-- messages that choose nothing leave what was agreed
agreed_led : (ms : List Message) (core : Core) → ChooseNone ms → (led core ms).brings_contexts ≡ core.brings_contexts
agreed_led [] core none = refl
agreed_led (m ∷ ms) core none = agreed_led ms (complete core m) (All-tail IsNoChoice m ms none) ∙ (turned core m).agreed_is (All-head IsNoChoice m ms none)

-- structured replies are in force behind a message that puts them in force
structured_led : (ms : List Message) (core : Core) → (led core ms).structured ≡ (core.structured || any ms)
structured_led [] core = sym (or-false core.structured)
structured_led (m ∷ ms) core = grind (arith, turned, structured_led ms (complete core m))

-- the phase waits for an answer to SET_META_CONTEXT
abbrev sets : Phase → Bool
sets (Answering asked p info) = asked == options.SET_META_CONTEXT
sets phase = false

sets_next : (phase : Phase) (m : Message) → IsOther m → sets phase ≡ false → sets (next_phase phase m) ≡ false
unfolding next_phase
sets_next phase m other h = grind (arith, ne_eqb)

-- messages that do not choose SET_META_CONTEXT, after its answer
record IsLeft (old now : Core) : Type 0 where
  selection_is : now.selection ≡ old.selection
  no_set : sets now.phase ≡ false

left : (ms : List Message) (core : Core) → ChooseNoOther ms → sets core.phase ≡ false → IsLeft core (led core ms)
left [] core other h = record { selection_is = refl; no_set = h }
left (m ∷ ms) core other h =
    let t : IsTurned core (complete core m) m = turned core m in
    let is : IsOther m = All-head IsOther m ms other in
    let one : sets (complete core m).phase ≡ false = elim t.phase_is [ inl e ↦ ap sets e ∙ h | inr e ↦ ap sets e ∙ sets_next core.phase m is h ] in
    let all : IsLeft (complete core m) (led (complete core m) ms) = left ms (complete core m) (All-tail IsOther m ms other) one in
    record { selection_is = all.selection_is ∙ t.selection_is ∙ (grind (arith, ne_eqb)); no_set = all.no_set }

-- the last message that one looks for
record Last (P Q : Message → Type 0) (ms : List Message) : Type 0 where
  early : List Message
  last : Message
  late : List Message
  cut : ms ≡ early ++ last ∷ late
  is : P last
  none : All Q late

last_of : (P Q : Message → Type 0) → ((m : Message) → P m ⊎ Q m) → (ms : List Message) → All Q ms ⊎ Last P Q ms
last_of P Q d [] = inl (All-nil Q)
last_of P Q d (m ∷ ms) = elim (last_of P Q d ms) [
  | inl none ↦ elim (d m) [
    | inl h ↦ inr (record { early = []; last = m; late = ms; cut = refl; is = h; none = none })
    | inr n ↦ inl (All-cons Q m ms n none)
  ]
  | inr l ↦ inr (record { early = m ∷ l.early; last = l.last; late = l.late; cut = ap (λ x. m ∷ x) l.cut; is = l.is; none = l.none })
]

chooses : (m : Message) → ((id : ℕ) × (p : List ℕ) × (m ≡ Choice id p)) ⊎ IsNoChoice m
chooses (Choice id p) = inl (id, p, refl)
chooses m = inr (λ id p q. cc)

chooses_set : (m : Message) → ((p : List ℕ) × (m ≡ Choice options.SET_META_CONTEXT p)) ⊎ IsOther m
chooses_set (Choice id p) = go (id == options.SET_META_CONTEXT) refl
  where
    go : (b : Bool) → (id == options.SET_META_CONTEXT) ≡ b → ((with : List ℕ) × (Choice id p ≡ Choice options.SET_META_CONTEXT with)) ⊎ IsOther (Choice id p)
    go b e = grind (arith, eqb-true, eqb-false)
chooses_set m = inr (λ p q. cc)

-- a list that holds an ACK that puts structured replies in force
record SplitsBy (ms : List Message) : Type 0 where
  before : List Message
  after : List Message
  option : ℕ
  grants : IsStructuring option
  at : ms ≡ before ++ structuring option ∷ after

acked : (core : Core) (phase : Phase) (m : Message) → IsAllowed core phase m → gives_structure m ≡ true → (o : ℕ) × IsStructuring o × (m ≡ structuring o)
unfolding IsAllowed
acked core Aborting (Answer option kind p) ok h = absurd (let q : false ≡ true = sym (ap (λ o. grants_structured o kind) (abort_allow option kind p ok).0) ∙ h in (cc))
acked core (Answering asked with info) (Answer option kind p) ok h =
    let r = grants_both option kind h in
    (option, r.0, ap (λ k. Answer option k p) r.1 ∙ ap (Answer option answers.ACK) (empty_ack asked with kind p (said_in core asked with info option kind p ok).1 r.1))
acked core phase m ok h = grind (arith, abort_allow, grants_both, empty_ack, said_in)

found : (ms : List Message) (core : Core) → Passes core ms → any ms ≡ true → SplitsBy ms
found [] core p h = absurd (cc)
found (m ∷ ms) core p h = elim (or_cases (gives_structure m) (any ms) h) [
  | inl g ↦ (let a = acked core core.phase m (allowed core core.phase m p.1) g in record { before = []; after = ms; option = a.0; grants = a.1; at = ap (λ x. x ∷ ms) a.2 })
  | inr r ↦ (let s : SplitsBy ms = found ms (complete core m) p.2 r in
      record { before = m ∷ s.before; after = s.after; option = s.option; grants = s.grants; at = ap (λ x. m ∷ x) s.at })
]

or_yes : (a : Bool) → (a || true) ≡ true
or_yes a = grind arith

holds : (before after : List Message) (o : ℕ) → IsStructuring o → any (before ++ structuring o ∷ after) ≡ true
holds [] after o so = grind arith
holds (m ∷ before) after o so = ap (λ b. gives_structure m || b) (holds before after o so) ∙ or_yes (gives_structure m)

-- what answers SET_META_CONTEXT
data Says (core : Core) (asked : List ℕ) (m : Message) : Type 0 where
  tells : (context : Context) → context.id < 2 ^ 32 → m ≡ telling context → Says core asked m
  grants : (count : ℕ) → queries_of asked ≡ Some count → m ≡ granting → Says core asked m
  refuses : (complete core m).phase ≡ Choosing → (complete core m).selection ≡ core.selection → Says core asked m

says : (core : Core) (asked : List ℕ) (info : Option Exporting) (m : Message) → core.phase ≡ Answering options.SET_META_CONTEXT asked info → IsSendable m →
    IsAllowed core (Answering options.SET_META_CONTEXT asked info) m → Says core asked m
unfolding IsAllowed IsSendable has
says core asked info (Answer option kind answer) at sn ok =
    let s = said_in core options.SET_META_CONTEXT asked info option kind answer ok in
    let answer_is : (k : ℕ) (a : List ℕ) → kind ≡ k → answer ≡ a → Answer option kind answer ≡ Answer options.SET_META_CONTEXT k a =
    λ k a x y. ap (λ o. Answer o kind answer) s.0 ∙ ap (λ o. Answer options.SET_META_CONTEXT o answer) x ∙ ap (Answer options.SET_META_CONTEXT k) y in
    elim s.1 [
      | inl e ↦ refuses
          (answer-phase core options.SET_META_CONTEXT asked info option kind answer at
          ∙ ap (λ b. if b then Choosing else if (kind == answers.SERVER) || (kind == answers.META_CONTEXT) then Answering options.SET_META_CONTEXT asked info else if kind == answers.INFO then Answering options.SET_META_CONTEXT asked (last_info (info_of answer) info) else ack_phase options.SET_META_CONTEXT info) e)
          (answer-selection core options.SET_META_CONTEXT asked info option kind answer at ∙ (grind (arith, eqb-true)))
      | inr s ↦ elim s.1 [
        | inl x ↦ (let count = proper_set asked s.0 in grants count.0 count.1 (answer_is answers.ACK [] x.0 x.1))
        | inr x ↦ (let t = x.1 refl in
            let f = context_form t.1.0 answer sn.2.1 t.1.1 in
            tells t.1.0 f.0 (answer_is answers.META_CONTEXT (big_bytes 4 t.1.0.id ++ t.1.0.name) t.0 f.1))
      ]
    ]
says core asked info m at sn ok = absurd ok

-- the id of a context has four bytes
abbrev IsShort : Context → Type 0
IsShort context = context.id < 2 ^ 32

-- SET_META_CONTEXT and its answer up to an ACK, and what follows
abbrev question : (asked : List ℕ) (contexts : List Context) (between : List Message) → List Message
question asked contexts between = Choice options.SET_META_CONTEXT asked ∷ (map telling contexts ++ granting ∷ between)

-- messages after SET_META_CONTEXT that granted it
record Parsed (asked : List ℕ) (ms : List Message) : Type 0 where
  contexts : List Context
  between : List Message
  count : ℕ
  cut : ms ≡ map telling contexts ++ granting ∷ between
  ids : All IsShort contexts
  last_set : ChooseNoOther between
  counts : queries_of asked ≡ Some count

parsed : (ms : List Message) (core : Core) (asked : List ℕ) (info : Option Exporting) → Passes core ms → ChooseNoOther ms → core.phase ≡ Answering options.SET_META_CONTEXT asked info →
    core.selection.granted ≡ false → (led core ms).selection.granted ≡ true → Parsed asked ms
parsed [] core asked info p other at w g = absurd (let q : false ≡ true = sym w ∙ g in cc)
parsed (m ∷ ms) core asked info p other at w g = elim (says core asked info m at p.0 (subst (λ phase. IsAllowed core phase m) at (allowed core core.phase m p.1))) [
  | tells context short e ↦ (let phase : (complete core m).phase ≡ Answering options.SET_META_CONTEXT asked info = ap (λ x. (complete core x).phase) e ∙ telling-phase core asked info context at in
      let waits : (complete core m).selection.granted ≡ false =
      ap (λ (s : Selection). s.granted) (ap (λ x. (complete core x).selection) e ∙ telling-selection core asked info context at short) ∙ w in
      let r : Parsed asked ms = parsed ms (complete core m) asked info p.2 (All-tail IsOther m ms other) phase waits g in
      record {
        contexts = context ∷ r.contexts;
        between = r.between;
        count = r.count;
        cut = ap (λ x. x ∷ ms) e ∙ ap (λ x. telling context ∷ x) r.cut;
        ids = All-cons IsShort context r.contexts short r.ids;
        last_set = r.last_set;
        counts = r.counts;
      })
  | grants count is e ↦ record {
    contexts = [];
    between = ms;
    count = count;
    cut = ap (λ x. x ∷ ms) e;
    ids = All-nil IsShort;
    last_set = All-tail IsOther m ms other;
    counts = is;
  }
  | refuses phase same ↦ absurd (let l : IsLeft (complete core m) (led (complete core m) ms) = left ms (complete core m) (All-tail IsOther m ms other) (ap sets phase) in
      let q : false ≡ true = sym w ∙ sym (ap (λ (s : Selection). s.granted) (l.selection_is ∙ same)) ∙ g in cc)
]

abbrev NamesSame : (id : ℕ) (payload name : List ℕ) → Type 0
NamesSame id payload name = (id ≡ options.EXPORT_NAME) × (payload ≡ name) ⊎ (id ≡ options.GO) × (name_in payload ≡ name)

names_other : (id : ℕ) (p name : List ℕ) → NamesSame id p name → IsOther (Choice id p)
names_other id p name n with q = grind arith

agrees_on : (id : ℕ) (p : List ℕ) (selection : Selection) → agrees id p selection ≡ true → (selection.granted ≡ true) × NamesSame id p selection.export_name
agrees_on id p selection e = grind (arith, and_parts, eqb-true, bytes_eq-Decides)

-- a GO leads into transmission where its data has the form
abbrev Goes : List ℕ → Phase → Type 0
Goes p (Answering asked with info) = (asked ≡ options.GO) × (with ≡ p)
Goes p Choosing = Unit {0}
Goes p (Transmission export) = IsTrue (is_go p)
Goes p phase = ⊥

goes_reply : (asked : ℕ) (with : List ℕ) (info : Option Exporting) (kind : ℕ) (answer p : List ℕ) → IsSaid asked with kind answer → Goes p (Answering asked with info) → Goes p (reply_phase asked with info kind answer)
unfolding is_proper_option
goes_reply asked with info kind answer p is l = grind (arith)

goes_on : (p : List ℕ) (core : Core) (phase : Phase) (m : Message) → core.phase ≡ phase → IsAllowed core phase m → IsNoChoice m → Goes p phase → Goes p (complete core m).phase
unfolding IsAllowed
goes_on p core (Transmission export) m at ok none l = subst (Goes p) (sym (phase-complete core export m (transmission_row core export m ok) ∙ at)) l
goes_on p core (Answering asked with info) (Answer option kind answer) at ok none l =
    subst (Goes p) (sym (answer-phase core asked with info option kind answer at)) (goes_reply asked with info kind answer p (said_in core asked with info option kind answer ok).1 l)
goes_on p core phase m at ok none l = grind (arith, phase-complete, transmission_row, answer-phase, goes_reply, said_in)

goes : (ms : List Message) (core : Core) (p : List ℕ) → Passes core ms → ChooseNone ms → Goes p core.phase → Goes p (led core ms).phase
goes [] core p ok none l = l
goes (m ∷ ms) core p ok none l = goes ms (complete core m) p ok.2 (All-tail IsNoChoice m ms none) (goes_on p core core.phase m refl (allowed core core.phase m ok.1) (All-head IsNoChoice m ms none) l)

-- contexts that are told are selected
record IsTold (core : Core) (asked : List ℕ) (contexts : List Context) (now : Core) : Type 0 where
  phase_is : now.phase ≡ Answering options.SET_META_CONTEXT asked None
  selection_is : now.selection ≡ record core.selection { contexts = core.selection.contexts ++ contexts }

told : (contexts : List Context) (core : Core) (asked : List ℕ) → All IsShort contexts → core.phase ≡ Answering options.SET_META_CONTEXT asked None → IsTold core asked contexts (led core (map telling contexts))
told [] core asked short at = record { phase_is = at; selection_is = ap (λ cs. record core.selection { contexts = cs }) (sym (append-nil core.selection.contexts)) }
told (context ∷ contexts) core asked short at =
    let same : (complete core (telling context)).selection ≡ one_more core.selection context = telling-selection core asked None context at (All-head IsShort context contexts short) in
    grind (arith, same, telling-selection, All-head, led, All-tail, telling-phase, append_assoc, told contexts (complete core (telling context)) asked (All-tail IsShort context contexts short) (telling-phase core asked None context at))

-- the answer to SET_META_CONTEXT puts no structured replies in force
any_told : (contexts : List Context) → any (map telling contexts) ≡ false
any_told [] = refl
any_told (context ∷ contexts) = any_told contexts

any_question : (early : List Message) (asked : List ℕ) (contexts : List Context) (between : List Message) → any (early ++ question asked contexts between) ≡ (any early || any between)
any_question early asked contexts between = grind (arith, list_any-append, any_told)

-- what SET_META_CONTEXT selected
module _ (core : Core) (early : List Message) (asked : List ℕ) (contexts : List Context) (between : List Message) (short : All IsShort contexts) (last_set : ChooseNoOther between)
    (p : Passes core (early ++ question asked contexts between)) where
  abbrev at_first : Core
  at_first = led core early

  abbrev at_question : Core
  at_question = complete at_first (Choice options.SET_META_CONTEXT asked)

  abbrev at_answer : Core
  at_answer = led at_question (map telling contexts)

  abbrev at_grant : Core
  at_grant = complete at_answer granting

  abbrev whole : Selection
  whole = record { export_name = name_in asked; contexts = contexts; granted = true }

  from_first : Passes core early × Passes at_first (question asked contexts between)
  from_first = passes-append early (question asked contexts between) core p

  from_grant : Passes at_grant between
  from_grant = (passes-append (map telling contexts) (granting ∷ between) at_question from_first.1.2).1.2

  asks : AreBytes asked
  asks = choice_bytes options.SET_META_CONTEXT asked from_first.1.0

  told_all : IsTold at_question asked contexts at_answer
  told_all = told contexts at_question asked short (choice-phase at_first options.SET_META_CONTEXT asked (chosen_in at_first.phase at_first options.SET_META_CONTEXT asked from_first.1.1))

  ends_there : led core (early ++ question asked contexts between) ≡ led at_grant between
  ends_there = led-append early (question asked contexts between) core ∙ led-append (map telling contexts) (granting ∷ between) at_question

  left_there : IsLeft at_grant (led at_grant between)
  left_there = left between at_grant last_set (ap sets (granting-phase at_answer asked None told_all.phase_is))

  selected : (led core (early ++ question asked contexts between)).selection ≡ whole
  selected =
      ap (λ (c : Core). c.selection) ends_there ∙ left_there.selection_is ∙ granting-selection at_answer asked None told_all.phase_is
      ∙ ap (λ (s : Selection). record s { granted = true }) (told_all.selection_is ∙ ap (λ (s : Selection). record s { contexts = s.contexts ++ contexts }) (choice-selection at_first options.SET_META_CONTEXT asked))

  rests : sets (led core (early ++ question asked contexts between)).phase ≡ false
  rests = ap (λ (c : Core). sets c.phase) ends_there ∙ left_there.no_set

  -- structured replies were put in force before the question or after its answer
  splits : (any early || any between) ≡ true → SplitsBy (early ++ between)
  splits h = elim (or_cases (any early) (any between) h) [
    | inl a ↦ (let s = found early core from_first.0 a in
        record { before = s.before; after = s.after ++ between; option = s.option; grants = s.grants; at = ap (λ x. x ++ between) s.at ∙ append_assoc s.before (structuring s.option ∷ s.after) between })
    | inr b ↦ (let s = found between at_grant from_grant b in
        record { before = early ++ s.before; after = s.after; option = s.option; grants = s.grants; at = ap (λ x. early ++ x) s.at ∙ sym (append_assoc early s.before (structuring s.option ∷ s.after)) })
  ]

-- the option that was chosen last
module _ (core : Core) (id : ℕ) (payload : List ℕ) (late : List Message) (none : ChooseNone late) where
  abbrev at_end : Core
  at_end = led (complete core (Choice id payload)) late

  agreed : at_end.brings_contexts ≡ (core.structured && agrees id payload core.selection)
  unfolding complete
  agreed = grind (arith, agreed_led)

  -- its contexts are in force where it agrees
  stays : IsOther (Choice id payload) → sets core.phase ≡ false → at_end.selection ≡ core.selection
  stays other h =
      (left (Choice id payload ∷ late) core (All-cons IsOther (Choice id payload) late other (All-weaker IsNoChoice IsOther (λ m n payload. n options.SET_META_CONTEXT payload) late none)) h).selection_is

agreed_in_force : (core : Core) → core.brings_contexts ≡ true → in_force core ≡ core.selection.contexts
agreed_in_force core e = ap (λ b. if b then core.selection.contexts else []) e

-- what was selected is in force
module _ (core : Core) (messages : List Message) (contexts : List Context) (a : AreSelected messages contexts) (p : Passes core messages) where
  abbrev front : List Message
  front = a.early ++ question a.asked contexts a.between

  in_parts : messages ≡ front ++ Choice a.id a.payload ∷ a.late
  in_parts = a.cut ∙ simp append_assoc

  parts : Passes core front × Passes (led core front) (Choice a.id a.payload ∷ a.late)
  parts = passes-append front (Choice a.id a.payload ∷ a.late) core (subst (Passes core) in_parts p)

  selected_in_force : in_force (led core messages) ≡ contexts
  selected_in_force = grind (arith, led, selected, agreed, structured_led, any_question, list_any-append, holds, or_yes, bytes_eq-Decides, in_parts, led-append, agreed_in_force, stays, names_other, rests, queries_of-form, asks, go-only, name_is, choice_bytes, parts)

-- what is in force was selected
module _ (core : Core) (messages : List Message) (export : Exporting) (p : Passes core messages) (first_structured : core.structured ≡ false) (first_granted : core.selection.granted ≡ false) (first_sets : sets core.phase ≡ false)
    (first_agreed : core.brings_contexts ≡ false) (there : (led core messages).phase ≡ Transmission export) (brings : (led core messages).brings_contexts ≡ true) where
  names_so : (id : ℕ) (payload name : List ℕ) (late : List Message) (now : Core) → Passes now (Choice id payload ∷ late) → ChooseNone late → (led now (Choice id payload ∷ late)).phase ≡ Transmission export →
      NamesSame id payload name → Names id payload name
  names_so id payload name late now ok none ends n = elim n [
    | inl x ↦ inl x
    | inr x ↦ (let b : AreBytes payload = choice_bytes id payload ok.0 in
        let at : (complete now (Choice id payload)).phase ≡ choice_phase options.GO payload = choice-phase now id payload (chosen_in now.phase now id payload ok.1) ∙ ap (λ i. choice_phase i payload) x.0 in
        let go : IsTrue (is_go payload) = subst (Goes payload) ends (goes late (complete now (Choice id payload)) payload ok.2 none (subst (Goes payload) (sym at) (refl, refl))) in
        let form = (is_go-exact payload b).0 go in
        let listed = go-only form.0 payload form.1 form.2 in
        let same : form.0 ≡ name = sym (name_is form.0 listed.0 payload b listed.1) ∙ x.1 in
        inr (x.0, (form.1, subst (λ n. HasGoForm n form.1 payload) same form.2)))
  ]

  -- by the last option and the last SET_META_CONTEXT before it
  by_set : (front : List Message) (id : ℕ) (payload : List ℕ) (late : List Message) → messages ≡ front ++ Choice id payload ∷ late → ChooseNone late →
      (early : List Message) (asked : List ℕ) (rest : List Message) → front ≡ early ++ Choice options.SET_META_CONTEXT asked ∷ rest → ChooseNoOther rest → AreSelected messages (in_force (led core messages))
  by_set front id payload late cut none early asked rest front_is last_set =
      let ok : Passes core front × Passes (led core front) (Choice id payload ∷ late) = passes-append front (Choice id payload ∷ late) core (subst (Passes core) cut p) in
      let ends : led core messages ≡ led (led core front) (Choice id payload ∷ late) = ap (led core) cut ∙ led-append front (Choice id payload ∷ late) core in
      let both = and_parts (led core front).structured (agrees id payload (led core front).selection) (sym (agreed (led core front) id payload late none) ∙ sym (ap (λ (c : Core). c.brings_contexts) ends) ∙ brings) in
      let named = agrees_on id payload (led core front).selection both.1 in
      let ok_early = passes-append early (Choice options.SET_META_CONTEXT asked ∷ rest) core (subst (Passes core) front_is ok.0) in
      let same_front : led core front ≡ led (complete (led core early) (Choice options.SET_META_CONTEXT asked)) rest = ap (led core) front_is ∙ led-append early (Choice options.SET_META_CONTEXT asked ∷ rest) core in
      let r : Parsed asked rest =
      parsed rest (complete (led core early) (Choice options.SET_META_CONTEXT asked)) asked None ok_early.1.2 last_set
      (choice-phase (led core early) options.SET_META_CONTEXT asked (chosen_in (led core early).phase (led core early) options.SET_META_CONTEXT asked ok_early.1.1))
      (ap (λ (s : Selection). s.granted) (choice-selection (led core early) options.SET_META_CONTEXT asked))
      (sym (ap (λ (c : Core). c.selection.granted) same_front) ∙ named.0) in
      let front_parts : front ≡ early ++ question asked r.contexts r.between = front_is ∙ ap (λ x. early ++ Choice options.SET_META_CONTEXT asked ∷ x) r.cut in
      let ok_front : Passes core (early ++ question asked r.contexts r.between) = subst (Passes core) front_parts ok.0 in
      let same : (led core front).selection ≡ whole core early asked r.contexts r.between r.ids r.last_set ok_front =
      ap (λ l. (led core l).selection) front_parts ∙ selected core early asked r.contexts r.between r.ids r.last_set ok_front in
      let names : NamesSame id payload (name_in asked) = subst (λ (s : Selection). NamesSame id payload s.export_name) same named.1 in
      let forced : in_force (led core messages) ≡ r.contexts =
      agreed_in_force (led core messages) brings
      ∙ ap (λ (c : Core). c.selection.contexts) ends
      ∙ ap (λ (s : Selection). s.contexts)
      (stays (led core front) id payload late none (names_other id payload (name_in asked) names) (ap (λ l. sets (led core l).phase) front_parts ∙ rests core early asked r.contexts r.between r.ids r.last_set ok_front) ∙ same) in
      let s : SplitsBy (early ++ r.between) = splits core early asked r.contexts r.between r.ids r.last_set ok_front
      (sym (any_question early asked r.contexts r.between) ∙ ap any (sym front_parts) ∙ sym (ap (λ b. b || any front) first_structured) ∙ sym (structured_led front core) ∙ both.0) in
      subst (AreSelected messages) (sym forced) (record {
        early = early;
        asked = asked;
        between = r.between;
        id = id;
        payload = payload;
        late = late;
        cut = cut ∙ ap (λ x. x ++ Choice id payload ∷ late) front_parts ∙ simp append_assoc;
        ids = r.ids;
        last_set = r.last_set;
        last_choice = none;
        name = name_in asked;
        count = r.count;
        asks = queries_of-found asked r.count (asks core early asked r.contexts r.between r.ids r.last_set ok_front) r.counts;
        names = names_so id payload (name_in asked) late (led core front) ok.1 none (sym (ap (λ (c : Core). c.phase) ends) ∙ there) names;
        before = s.before;
        after = s.after;
        granting = s.option;
        grants = s.grants;
        structured = s.at;
      })

  by_choice : (front : List Message) (id : ℕ) (payload : List ℕ) (late : List Message) → messages ≡ front ++ Choice id payload ∷ late → ChooseNone late → AreSelected messages (in_force (led core messages))
  by_choice front id payload late cut none = elim (last_of (λ m. (p : List ℕ) × (m ≡ Choice options.SET_META_CONTEXT p)) IsOther chooses_set front) [
    | inl other ↦ absurd (let ends = ap (λ (c : Core). c.brings_contexts) (ap (led core) cut ∙ led-append front (Choice id payload ∷ late) core) in
        let both = and_parts (led core front).structured (agrees id payload (led core front).selection) (sym (agreed (led core front) id payload late none) ∙ sym ends ∙ brings) in
        let q : false ≡ true = sym first_granted ∙ sym (ap (λ (s : Selection). s.granted) (left front core other first_sets).selection_is) ∙ (agrees_on id payload (led core front).selection both.1).0 in cc)
    | inr l ↦ by_set front id payload late cut none l.early l.is.0 l.late (l.cut ∙ ap (λ m. l.early ++ m ∷ l.late) l.is.1) l.none
  ]

  forced_selected : AreSelected messages (in_force (led core messages))
  forced_selected = elim (last_of (λ m. (id : ℕ) × (p : List ℕ) × (m ≡ Choice id p)) IsNoChoice chooses messages) [
    | inl none ↦ absurd (let q : false ≡ true = sym first_agreed ∙ sym (agreed_led messages core none) ∙ brings in cc)
    | inr l ↦ by_choice l.early l.is.0 l.is.1 l.late (l.cut ∙ ap (λ m. l.early ++ m ∷ l.late) l.is.2) l.none
  ]

pub contexts_are_selected : ContextsAreSelected
contexts_are_selected profile items export run there =
    let first : Core = (start_of profile).core in
    let messages : List Message = completed_messages items in
    let p : Passes first messages = run_passes items run in
    let same : led first messages ≡ (ends_at (start_of profile) items).core = run_leads profile items in (
      λ contexts a. ap in_force (sym same) ∙ selected_in_force first messages contexts a p,
      λ some.
          (let brings = ap (λ (c : Core). c.brings_contexts) same ∙ (grind arith) in
          subst (λ c. AreSelected messages (in_force c)) same
          (forced_selected first messages export p refl refl refl refl (ap (λ (c : Core). c.phase) same ∙ there) brings)),
    )
