-- The turns of negotiation (proto.md, "Fixed newstyle negotiation", "Option types", "Option reply types").
use Rattle.std.specs.{Prelude.{ℕ, List, [], ◌++◌, ◌==◌, ◌&&◌, ◌||◌, not, Bool, true, false, if◌then◌else◌, Option, Some, None, length, is_some, option_to_list, unwrap_or}, Str.bytes_eq}
use Rattle.nbd_wire.specs.declared.{message.{Side.{Side, TheVariants.{Client, Server}}, Message.{Message, TheVariants.{Greeting, ClientFlags, Choice, Answer, Exported}}}, payloads.Info.{Info, TheVariants.Export}}
use Rattle.nbd_wire.specs.protocol.{Contexts.Selection, Payloads.{context_of, info_of, is_go, name_in, queries_of}, Operations.Exporting, Flags.has, States.{Phase, Greet, Flags, Choosing, Naming, Aborting, Answering, Ended, Transmission}}
use Rattle.nbd_wire.specs.declared.answers.TheConstants as answers
use Rattle.nbd_wire.specs.declared.options.TheConstants as options

-- the kind of an option reply is an error (proto.md, "Option reply types")
abbrev pub is_error : ℕ → Bool
is_error kind = has kind answers.ERROR

-- the data of an option has its form; EXPORT_NAME and ABORT take any data; an option that is not listed here is not
-- followed and counts as malformed (proto.md, "Option types"; not following it, and that EXTENDED_HEADERS has no data,
-- is this project's choice)
unfoldable pub is_proper_option : ℕ → List ℕ → Bool
is_proper_option option payload =
    if (option == options.EXPORT_NAME) || (option == options.ABORT) then true
    else if (option == options.LIST) || ((option == options.STRUCTURED_REPLY) || (option == options.EXTENDED_HEADERS))
    then length payload == 0
    else if (option == options.INFO) || (option == options.GO) then is_go payload
    else ((option == options.LIST_META_CONTEXT) || (option == options.SET_META_CONTEXT)) && is_some (queries_of payload)

-- whose turn it is in a phase of the negotiation
abbrev pub turn : Phase → Option Side
turn Flags = Some Client
turn Choosing = Some Client
turn Ended = None
turn (Transmission _) = None
turn _ = Some Server

-- the option takes META_CONTEXT: LIST_META_CONTEXT, and SET_META_CONTEXT unless its data has the form and no query
-- (proto.md, "Option types", "Metadata querying")
abbrev pub takes_contexts : (option : ℕ) (payload : List ℕ) → Bool
takes_contexts option payload =
    (option == options.LIST_META_CONTEXT)
    || ((option == options.SET_META_CONTEXT) && not (unwrap_or (queries_of payload) 1 == 0))

-- what is selected once an option is chosen: SET_META_CONTEXT replaces what an earlier one selected, whatever its
-- answer (proto.md, "Option types")
abbrev pub selection_at : (id : ℕ) (payload : List ℕ) → Selection → Selection
selection_at id payload selection =
    if id == options.SET_META_CONTEXT then
    record { export_name = name_in payload; contexts = []; granted = false }
    else selection

-- what is selected after an answer to SET_META_CONTEXT of this kind
abbrev pub selection_told : (kind : ℕ) (answer : List ℕ) → Selection → Selection
selection_told kind answer selection =
    if kind == answers.META_CONTEXT then
    record selection { contexts = selection.contexts ++ option_to_list (context_of answer) }
    else if kind == answers.ACK then record selection { granted = true }
    else selection

-- what is selected after an answer that comes in this phase: one to another option changes nothing
abbrev pub selection_after : Phase → (kind : ℕ) (answer : List ℕ) → Selection → Selection
selection_after (Answering option payload info) kind answer selection =
    if option == options.SET_META_CONTEXT then selection_told kind answer selection else selection
selection_after _ kind answer selection = selection

-- the option is GO or EXPORT_NAME and names, byte for byte, the export of a selection that was granted (proto.md,
-- "Metadata querying"; that no default name is resolved is this project's choice)
abbrev pub agrees : (id : ℕ) (payload : List ℕ) → Selection → Bool
agrees id payload selection =
    selection.granted
    && (if id == options.EXPORT_NAME then bytes_eq payload selection.export_name
    else if id == options.GO then bytes_eq (name_in payload) selection.export_name
    else false)

-- the last EXPORT info counts (this project's choice)
abbrev pub last_info : Option Info → Option Exporting → Option Exporting
last_info (Some (Export size flags)) info = Some (record { size = size; flags = flags })
last_info _ info = info

-- after a chosen option
abbrev pub choice_phase : ℕ → List ℕ → Phase
choice_phase id payload = if id == options.EXPORT_NAME then Naming else if id == options.ABORT then Aborting else
    Answering id payload None

-- after an ACK
abbrev pub ack_phase : ℕ → Option Exporting → Phase
ack_phase option (Some export) = if option == options.GO then Transmission export else Choosing
ack_phase option None = Choosing

-- after an answer to an option: an error forgets the infos
abbrev pub reply_phase : (option : ℕ) (payload : List ℕ) (info : Option Exporting) (kind : ℕ) (answer : List ℕ) → Phase
reply_phase option payload info kind answer =
    if is_error kind then Choosing
    else if (kind == answers.SERVER) || (kind == answers.META_CONTEXT) then Answering option payload info
    else if kind == answers.INFO then Answering option payload (last_info (info_of answer) info)
    else ack_phase option info

-- the phase after a message that may complete in a phase of the negotiation
unfoldable pub next_phase : Phase → Message → Phase
next_phase Greet (Greeting flags) = Flags
next_phase Flags (ClientFlags flags) = Choosing
next_phase Choosing (Choice id payload) = choice_phase id payload
next_phase Naming (Exported size flags padded) = Transmission (record { size = size; flags = flags })
next_phase Aborting (Answer option kind payload) = Ended
next_phase (Answering asked payload info) (Answer option kind answer) = reply_phase asked payload info kind answer
next_phase phase _ = phase
