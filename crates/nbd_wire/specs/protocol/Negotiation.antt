-- What is refused of a message of the negotiation, in lists of tests (`Tests`), each with its section of proto.md.
use Rattle.std.specs.{Prelude.{ℕ, List, [], ◌+◌, Bool, true, false, not, ◌&&◌, ◌||◌, ◌==◌, if◌then◌else◌, nat_lt, Option, Some, None}, List.list_all}
use Rattle.nbd_wire.specs.declared.answers.TheConstants as answers
use Rattle.nbd_wire.specs.declared.handshake.TheConstants as handshake
use Rattle.nbd_wire.specs.declared.{limits.TheConstants.EXPORT_SIZE, payloads.Info.{Info, TheVariants.{Export, BlockSize, Other}}, profile.Profile.{Profile, TheVariants.{Base, Wide}}, fault.WireFault.{WireFault, TheVariants.{NotFixedNewstyle, BadClientFlags, WrongOption, BadReplyKind, OutOfProfile, BadReplyPayload, MissingExportInfo, BadExport, ExportTooLarge, SuccessOfImproper}}}
use Rattle.nbd_wire.specs.protocol.{Options.is_error, Contexts.{Context, Selection, has_id}, Payloads.{context_of, info_of, is_listed}, Operations.Exporting, Sizes.are_allowed, Flags.{has, has_only}, Tests.{◌when◌else◌}}
use Rattle.nbd_wire.specs.declared.options.TheConstants as options
use Rattle.nbd_wire.specs.declared.transmission.TheConstants as transmission

-- a greeting, at its head
abbrev pub greeting_fault : (flags : ℕ) → Option WireFault
greeting_fault flags =
    -- no fixed newstyle ("Handshake flags"; that others are refused is this project's choice)
    NotFixedNewstyle when not (has flags handshake.FIXED_NEWSTYLE) else
    None

-- the client's flags
abbrev pub client_flags_fault : (offered flags : ℕ) → Option WireFault
client_flags_fault offered flags =
    -- no fixed newstyle ("Client flags")
    NotFixedNewstyle when not (has flags handshake.C_FIXED_NEWSTYLE) else
    -- a flag that is unknown, or that the server did not offer ("Client flags")
    BadClientFlags when not (has_only flags (handshake.C_FIXED_NEWSTYLE + handshake.C_NO_ZEROES))
    || (has flags handshake.C_NO_ZEROES && not (has offered handshake.NO_ZEROES)) else
    None

-- the answer to EXPORT_NAME, at its head
abbrev pub export_fault : (size flags : ℕ) → Option WireFault
export_fault size flags =
    -- no HAS_FLAGS ("Transmission flags")
    BadExport when not (has flags transmission.HAS_FLAGS) else
    -- too large an export (this project's choice)
    ExportTooLarge when nat_lt EXPORT_SIZE size else
    None

-- each byte is zero
abbrev pub are_zeroes : List ℕ → Bool
are_zeroes bytes = list_all (λ b. b == 0) bytes

-- at the last of the zeroes after an export's size and flags
abbrev pub padding_fault : List ℕ → Option WireFault
padding_fault padding =
    -- the padding is not zeroes ("Newstyle negotiation")
    BadExport when not (are_zeroes padding) else
    None

-- an answer's option, at its head; `next` is the fault of its kind
abbrev pub answer_fault : (asked option : ℕ) → (next : Option WireFault) → Option WireFault
answer_fault asked option next =
    -- another option's number ("Fixed newstyle negotiation")
    WrongOption when not (option == asked) else
    next

-- an ACK, at its head; `next` is the fault of one that has no payload
abbrev pub ack_fault : (kind len : ℕ) → (next : Option WireFault) → Option WireFault
ack_fault kind len next =
    -- an ACK with a payload ("Option reply types")
    BadReplyPayload when (kind == answers.ACK) && not (len == 0) else
    next

-- the answer to ABORT, at its head, by its kind
abbrev pub abort_fault : (kind len : ℕ) → Option WireFault
abort_fault kind len =
    -- neither an error nor an ACK ("Option types"; that it may be an error is this project's choice)
    BadReplyKind when not (is_error kind) && not (kind == answers.ACK) else
    ack_fault kind len None

-- the profile Wide alone follows the option: it is on metadata contexts, or EXTENDED_HEADERS
abbrev pub extends : ℕ → Bool
extends option = ((option == options.LIST_META_CONTEXT) || (option == options.SET_META_CONTEXT))
    || (option == options.EXTENDED_HEADERS)

-- the profile is Wide
abbrev pub is_wide : Profile → Bool
is_wide Base = false
is_wide Wide = true

-- the profile follows the option
abbrev pub is_followed : Profile → ℕ → Bool
is_followed profile option = (option == options.LIST)
    || ((option == options.INFO) || ((option == options.GO) || ((option == options.STRUCTURED_REPLY)
    || (is_wide profile && extends option))))

-- a kind of success that an option takes; `takes` is whether it takes contexts
abbrev pub answers_option : (option : ℕ) (takes : Bool) (kind : ℕ) → Bool
answers_option option takes kind =
    (kind == answers.ACK)
    || (((option == options.LIST) && (kind == answers.SERVER))
    || ((((option == options.INFO) || (option == options.GO)) && (kind == answers.INFO))
    || (takes && (kind == answers.META_CONTEXT))))

-- an ACK, by the last EXPORT info before it
abbrev pub info_fault : (option : ℕ) (proper : Bool) → Option Exporting → Option WireFault
info_fault option proper None =
    -- no info on the export came before ("Option types")
    MissingExportInfo when ((option == options.INFO) || (option == options.GO)) && proper else
    None
info_fault option proper (Some export) =
    -- GO into too large an export (this project's choice)
    ExportTooLarge when (option == options.GO) && nat_lt EXPORT_SIZE export.size else
    None

-- an answer that is no error, at its head, by its kind
abbrev pub success_fault : Profile → ℕ → (proper takes : Bool) → Option Exporting → (kind len : ℕ) → Option WireFault
success_fault profile option proper takes info kind len =
    -- the option is not followed (this project's choice)
    OutOfProfile when not (is_followed profile option) else
    -- a kind that the option does not take ("Option types")
    BadReplyKind when not (answers_option option takes kind) else
    ack_fault kind len (if kind == answers.ACK then info_fault option proper info else None)

-- an info on the export has HAS_FLAGS, and in Wide block sizes are such as a server may announce
abbrev pub is_good_info : Profile → Option Info → Bool
is_good_info profile None = false
is_good_info profile (Some (Export size flags)) = has flags transmission.HAS_FLAGS
is_good_info profile (Some (BlockSize least preferred most)) =
    not (is_wide profile) || are_allowed (record { least = least; preferred = preferred; largest = most })
is_good_info profile (Some (Other kind)) = true

-- a context that has not the id of an earlier one of these
abbrev pub is_good_context : List Context → Option Context → Bool
is_good_context earlier None = false
is_good_context earlier (Some context) = not (has_id earlier context.id)

-- a payload without its form, an info or a context that is not good
abbrev pub is_bad_payload : Profile → List Context → (kind : ℕ) → List ℕ → Bool
is_bad_payload profile earlier kind payload =
    ((kind == answers.SERVER) && not (is_listed payload))
    || (((kind == answers.INFO) && not (is_good_info profile (info_of payload)))
    || ((kind == answers.META_CONTEXT) && not (is_good_context earlier (context_of payload))))

-- the contexts whose ids an answer to the option may not have again
abbrev pub earlier_to : (option : ℕ) → Selection → List Context
earlier_to option selection = if option == options.SET_META_CONTEXT then selection.contexts else []

-- an answer that is no error, at its last byte
abbrev pub payload_fault : Profile → List Context → (proper : Bool) (kind : ℕ) → List ℕ → Option WireFault
payload_fault profile earlier proper kind payload =
    -- a bad payload ("Option reply types", "Transmission flags", "Metadata querying")
    BadReplyPayload when is_bad_payload profile earlier kind payload else
    -- success of an option whose data has not its form (this project's choice)
    SuccessOfImproper when not proper else
    None

-- an answer to this option, at its head: whether its data was proper and takes contexts, the last EXPORT info since; an
-- error has no fault but another option's number
abbrev pub answer_head_fault : Profile → (asked : ℕ) (proper takes : Bool) (info : Option Exporting)
    → (option kind len : ℕ) → Option WireFault
answer_head_fault profile asked proper takes info option kind len =
    answer_fault asked option (if is_error kind then None else success_fault profile asked proper takes info kind len)

-- and at its last byte: what is selected
abbrev pub answer_last_fault : Profile → ℕ → (proper : Bool) → Selection → (kind : ℕ) → List ℕ → Option WireFault
answer_last_fault profile asked proper selection kind payload =
    if is_error kind then None else payload_fault profile (earlier_to asked selection) proper kind payload
