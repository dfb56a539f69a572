-- What is decided of a server's bytes by how many requests had completed, and the program's values as definitions.
pub mod Expecting
pub mod Known
pub mod Leading
pub mod Logging
pub mod Standing
pub mod Steps
use Rattle.std.specs.Prelude.{ℕ, List, Option, Some, None, nat_le, if◌then◌else◌, option_and_then, length, Bool, true, false, not, ◌&&◌, ◌||◌, ◌==◌, is_some}
use Rattle.nbd_wire.specs.{declared.{message.Side.Side, fault.WireFault.{WireFault, TheVariants.{BadReplyOffset, IncompleteRead, IncompleteStatus, SuccessOfImproper}}, heads.transmission.RequestHead.RequestHead}, protocol.Decisions.decision_with, Prelude.{Decision, operation, Operation, Core, target, Context, carries_payload, in_force, are_settled, fault_if, is_too_large, status_kind}}
use Rattle.nbd_wire.specs.declared.commands.TheConstants as commands
use Rattle.nbd_state.specs.declared.asked.Asked.{Asked}

-- only a number up to the count
abbrev pub within : (count : ℕ) → Option ℕ → Option ℕ
within count (Some k) = if nat_le k count then Some k else None
within count None = None

-- the request that a reply with this cookie answers
abbrev pub operation_counted : (count : ℕ) → (now : Core) → (cookie : ℕ) → Option Operation
operation_counted count now cookie =
    option_and_then (λ k. operation k now.entries) (within count (target cookie now.entries))

-- what is decided of a side's bytes
abbrev pub decision_by_count : (count : ℕ) → (now : Core) → Side → List ℕ → Option Decision
decision_by_count count now s bytes = decision_with now.phase (operation_counted count now) now s bytes

-- a simple reply with this error may not answer it
abbrev pub is_simple_forbidden : Core → Asked → (error : ℕ) → Bool
is_simple_forbidden core asked error = is_some asked.known_at || (((asked.command == commands.READ) && core.structured)
    || (((asked.command == commands.BLOCK_STATUS) && not (length (in_force core) == 0)) && (error == 0)))

-- a BLOCK_STATUS of this length, if it is one, leaves one of the contexts unsettled
abbrev pub lacks_by : (command len : ℕ) (settled : ℕ → Bool) → List Context → Bool
lacks_by command len settled contexts =
    (command == commands.BLOCK_STATUS) && (not (len == 0) && not (are_settled settled contexts))

-- at the end of a reply to a request of this command and length that gave so many bytes
abbrev pub finish_by : (command len : ℕ) (proper failed : Bool) (given : ℕ) (lacks : Bool) → Option WireFault
finish_by command len proper true given lacks = None
finish_by command len proper false given lacks = fault_if ((command == commands.READ) && not (given == len))
    IncompleteRead (fault_if (not proper) SuccessOfImproper (fault_if lacks IncompleteStatus None))

-- the fault counts where the reply ends
abbrev pub done_by : Bool → Option WireFault → Option WireFault
done_by true fault = fault
done_by false fault = None

-- with an extended header: a payload that is too large
abbrev pub is_beyond : RequestHead → Bool
is_beyond h = h.extended && (carries_payload h.flags h.command && is_too_large h.length)

-- a DISC with an offset or a length
abbrev pub is_bad_disconnect : RequestHead → Bool
is_bad_disconnect h = (h.command == commands.DISC) && not ((h.offset == 0) && (h.length == 0))

-- a chunk with such a header and of this type is one of a status
abbrev pub is_status : (at : Option ℕ) → (kind : ℕ) → Bool
is_status at kind = kind == status_kind (is_some at)

-- an extended header has another offset than its request
abbrev pub elsewhere_fault : (at : Option ℕ) → (offset : ℕ) → Option WireFault
elsewhere_fault None offset = None
elsewhere_fault (Some at) offset = fault_if (not (at == offset)) BadReplyOffset None
