-- What the messages of negotiation are.
use Rattle.std.specs.Prelude.{◌≡◌, ◌≢◌, false, ◌⊎◌, ◌+◌, ◌==◌, ℕ, List, [], ◌∷◌, ◌++◌, Option, Some, None, if◌then◌else◌, IsTrue, is_some}
use Rattle.nbd_wire.specs.declared.answers.TheConstants as answers
use Rattle.nbd_wire.specs.declared.handshake.TheConstants as handshake
use Rattle.nbd_wire.specs.declared.options.TheConstants as options
use Rattle.nbd_wire.specs.{declared.{message.{Message.{Message, TheVariants.{Greeting, ClientFlags, Choice, Answer}}, Side.TheVariants.Server}, profile.Profile.{Profile, TheVariants.Wide}}, Prelude.{Context, has_id, Item, Completes, completed_messages, is_error, is_proper_option, last_info, context_of, info_of, Exporting, has, IsRunOf, queries_of}}

-- the client speaks fixed newstyle, and takes NO_ZEROES at most, where it was offered
abbrev pub AreFairFlags : (offered flags : ℕ) → Type 0
AreFairFlags offered flags =
    (flags ≡ handshake.C_FIXED_NEWSTYLE)
    ⊎ (flags ≡ handshake.C_FIXED_NEWSTYLE + handshake.C_NO_ZEROES) × IsTrue (has offered handshake.NO_ZEROES)

-- the second message, if it has come, is the client's flags
abbrev pub BeginsWithFlags : ℕ → List Message → Type 0
BeginsWithFlags offered messages = (messages ≡ [])
    ⊎ ((flags : ℕ) × (rest : List Message) × (messages ≡ ClientFlags flags ∷ rest) × AreFairFlags offered flags)

-- a session begins with a greeting of a server that speaks fixed newstyle and the client's flags
abbrev pub HandshakesAreFair : Type 0
HandshakesAreFair = (profile : Profile) (items : List Item) → IsRunOf profile items →
    (completed_messages items ≡ []) ⊎ ((flags : ℕ) × (rest : List Message)
    × (completed_messages items ≡ Greeting flags ∷ rest) × IsTrue (has flags handshake.FIXED_NEWSTYLE)
    × BeginsWithFlags flags rest)

-- an option with its data
pub record Chosen : Type 0 where
  pub option : ℕ
  pub payload : List ℕ

-- the option that was chosen last, at first this one
abbrev pub choice_after : Option Chosen → List Message → Option Chosen
choice_after last [] = last
choice_after last (Choice id payload ∷ messages) =
    choice_after (Some (record { option = id; payload = payload })) messages
choice_after last (m ∷ messages) = choice_after last messages

-- the last info on an export since an option was chosen, at first this one
abbrev pub info_after : Option Exporting → List Message → Option Exporting
info_after last [] = last
info_after last (Choice id payload ∷ messages) = info_after None messages
info_after last (Answer option kind payload ∷ messages) =
    info_after (if kind == answers.INFO then last_info (info_of payload) last else last) messages
info_after last (m ∷ messages) = info_after last messages

-- one more context
abbrev pub contexts_with : Option Context → List Context → List Context
contexts_with (Some context) contexts = contexts ++ context ∷ []
contexts_with None contexts = contexts

-- the contexts that were told since an option was chosen, at first these
abbrev pub contexts_after : List Context → List Message → List Context
contexts_after told [] = told
contexts_after told (Choice id payload ∷ messages) = contexts_after [] messages
contexts_after told (Answer option kind payload ∷ messages) =
    contexts_after (if kind == answers.META_CONTEXT then contexts_with (context_of payload) told else told) messages
contexts_after told (m ∷ messages) = contexts_after told messages

-- what may be acknowledged: ABORT, LIST and STRUCTURED_REPLY, and after an info on an export INFO and GO
abbrev pub IsAcknowledged : (option : ℕ) (info : Option Exporting) → Type 0
IsAcknowledged option info =
    (option ≡ options.ABORT) ⊎ (option ≡ options.LIST) ⊎ (option ≡ options.STRUCTURED_REPLY)
    ⊎ ((option ≡ options.INFO) ⊎ (option ≡ options.GO)) × IsTrue (is_some info)

-- of an option on contexts of which these were told an ACK without payload or a context, which SET_META_CONTEXT asked
-- for by a query, and with another id than each that it was told
abbrev pub IsContextAnswer : Chosen → (told : List Context) (kind : ℕ) (payload : List ℕ) → Type 0
IsContextAnswer asked told kind payload =
    ((asked.option ≡ options.LIST_META_CONTEXT) ⊎ (asked.option ≡ options.SET_META_CONTEXT))
    × ((kind ≡ answers.ACK) × (payload ≡ [])
    ⊎ (kind ≡ answers.META_CONTEXT) × ((context : Context) × (context_of payload ≡ Some context)
    × (asked.option ≡ options.SET_META_CONTEXT → (queries_of asked.payload ≢ Some 0)
    × (has_id told context.id ≡ false))))

-- an error, or where the option's data has its form an ACK without payload, a name for LIST, an info for INFO and GO,
-- and in Wide what answers an option on contexts, and an ACK without payload to EXTENDED_HEADERS
abbrev pub IsAnswer : Profile → Chosen → (info : Option Exporting) (told : List Context) (kind : ℕ) (payload : List ℕ)
    → Type 0
IsAnswer profile asked info told kind payload =
    IsTrue (is_error kind)
    ⊎ IsTrue (is_proper_option asked.option asked.payload) × (
    (kind ≡ answers.ACK) × (payload ≡ []) × IsAcknowledged asked.option info
    ⊎ (kind ≡ answers.SERVER) × (asked.option ≡ options.LIST)
    ⊎ (kind ≡ answers.INFO) × ((asked.option ≡ options.INFO) ⊎ (asked.option ≡ options.GO))
    ⊎ (profile ≡ Wide) × (IsContextAnswer asked told kind payload
    ⊎ (asked.option ≡ options.EXTENDED_HEADERS) × (kind ≡ answers.ACK) × (payload ≡ [])))

-- an answer is one to the option that was chosen last
abbrev pub AnswersFollowChoices : Type 0
AnswersFollowChoices = (profile : Profile) (prefix back : List Item) (option kind : ℕ) (payload : List ℕ)
    → IsRunOf profile (prefix ++ Completes Server (Answer option kind payload) ∷ back) →
    (asked : Chosen) × (choice_after None (completed_messages prefix) ≡ Some asked) × (asked.option ≡ option)
    × IsAnswer profile asked (info_after None (completed_messages prefix))
    (contexts_after [] (completed_messages prefix)) kind payload
