-- What is decided of bytes that begin a message: the lists of tests (`Negotiation`, `Transmission`) with the numbers
-- that stand in the bytes. `old` is what had completed before the first of them, `now` what has completed since.
use Rattle.std.specs.Prelude.{ℕ, List, Bool, true, false, Option, Some, None, not, ◌+◌, ◌&&◌, ◌==◌, nat_le, nat_lt, length, drop, option_and_then, if◌then◌else◌}
use Rattle.nbd_wire.specs.declared.chunks.TheConstants as chunks
use Rattle.nbd_wire.specs.declared.{fault.WireFault.{WireFault, TheVariants.{BadMagic, OutOfTurn}}, magics.TheConstants.{GREETING_MAGIC, OPTION_MAGIC, ANSWER_MAGIC, REQUEST_MAGIC, SIMPLE_MAGIC, CHUNK_MAGIC, EXTENDED_REQUEST_MAGIC, EXTENDED_CHUNK_MAGIC}, message.{Message.{Message, TheVariants.{Greeting, ClientFlags, Choice, Answer, Exported, Request, Simple, Chunk, ExtendedRequest, ExtendedChunk}}, Side.{Side, TheVariants.{Client, Server}}}, profile.Profile.Profile}
use Rattle.nbd_wire.specs.protocol.{Contexts.Selection, Flags.has, Negotiation.{abort_fault, answer_fault, answer_head_fault, answer_last_fault, client_flags_fault, export_fault, greeting_fault, padding_fault}, Operations.{Exporting, Operation}, Options.{is_proper_option, takes_contexts}, Payloads.number_at, States.{Core, Phase, Greet, Flags, Choosing, Naming, Aborting, Answering, Transmission, target, operation, with_reply}, Tests.{◌when◌else◌}, Transmission.{chunk_fault, chunk_head_fault, cookie_fault, offset_fault, read_as, request_fault, request_payload_length, simple_fault, simple_last_fault, simple_payload_length}}
use Rattle.nbd_wire.specs.declared.handshake.TheConstants as handshake
use Rattle.nbd_wire.specs.declared.options.TheConstants as options

-- the length of the head, what is refused at its last byte, how many bytes follow it, what is refused at the last byte
-- of all, and the message
pub record Decision : Type 0 where
  pub head_length : ℕ
  pub head_fault : Option WireFault
  pub payload_length : ℕ
  pub last_fault : Option WireFault
  pub message : Message

-- a head with another magic number than its message's ("Newstyle negotiation", "Fixed newstyle negotiation", "Request
-- message", "Simple reply message", "Structured reply chunk message"); `next` is what else is refused of it
abbrev pub magic_fault : (is_magic : Bool) → (next : Option WireFault) → Option WireFault
magic_fault is_magic next = BadMagic when not is_magic else next

-- a decision in one row: the length of the head, whether its magic numbers are its message's, what else is refused at
-- its last byte, how many bytes follow it, what is refused at the last byte of all, and the message
abbrev pub decide : (head : ℕ) → (is_magic : Bool) → (at_head : Option WireFault) → (payload : ℕ)
    → (at_last : Option WireFault) → Message → Decision
decide head is_magic at_head payload at_last m = record {
  head_length = head;
  head_fault = magic_fault is_magic at_head;
  payload_length = payload;
  last_fault = at_last;
  message = m;
}

-- a greeting
abbrev pub greeting : List ℕ → Decision
greeting bytes =
    decide 18 ((number_at 0 8 bytes == GREETING_MAGIC) && (number_at 8 8 bytes == OPTION_MAGIC))
    (greeting_fault (number_at 16 2 bytes)) 0 None (Greeting (number_at 16 2 bytes))

-- the client's flags
abbrev pub client_flags : (offered : ℕ) → List ℕ → Decision
client_flags offered bytes =
    decide 4 true (client_flags_fault offered (number_at 0 4 bytes)) 0 None (ClientFlags (number_at 0 4 bytes))

-- an option
abbrev pub choice : List ℕ → Decision
choice bytes =
    decide 16 (number_at 0 8 bytes == OPTION_MAGIC) None (number_at 12 4 bytes) None
    (Choice (number_at 8 4 bytes) (drop 16 bytes))

-- the answer to EXPORT_NAME, by whether the client took NO_ZEROES
abbrev pub export_answer : (no_zeroes : Bool) → List ℕ → Decision
export_answer no_zeroes bytes =
    decide 10 true (export_fault (number_at 0 8 bytes) (number_at 8 2 bytes)) (if no_zeroes then 0 else 124)
    (if no_zeroes then None else padding_fault (drop 10 bytes))
    (Exported (number_at 0 8 bytes) (number_at 8 2 bytes) (not no_zeroes))

-- an option reply
abbrev pub answer_of : List ℕ → Message
answer_of bytes = Answer (number_at 8 4 bytes) (number_at 12 4 bytes) (drop 20 bytes)

-- the answer to ABORT
abbrev pub abort_answer : List ℕ → Decision
abort_answer bytes =
    decide 20 (number_at 0 8 bytes == ANSWER_MAGIC)
    (answer_fault options.ABORT (number_at 8 4 bytes) (abort_fault (number_at 12 4 bytes) (number_at 16 4 bytes)))
    (number_at 16 4 bytes) None (answer_of bytes)

-- an answer to another option
abbrev pub answer : Profile → (option : ℕ) → (proper takes : Bool) → (info : Option Exporting) → Selection
    → (bytes : List ℕ) → Decision
answer profile option proper takes info selection bytes =
    decide 20 (number_at 0 8 bytes == ANSWER_MAGIC)
    (answer_head_fault profile option proper takes info (number_at 8 4 bytes) (number_at 12 4 bytes)
    (number_at 16 4 bytes))
    (number_at 16 4 bytes)
    (answer_last_fault profile option proper selection (number_at 12 4 bytes) (drop 20 bytes)) (answer_of bytes)

-- a request, with an extended header or not
abbrev pub request_of : (extended : Bool) → List ℕ → Message
request_of false bytes = Request (number_at 4 2 bytes) (number_at 6 2 bytes) (number_at 8 8 bytes)
    (number_at 16 8 bytes) (number_at 24 4 bytes) (drop 28 bytes)
request_of true bytes = ExtendedRequest (number_at 4 2 bytes) (number_at 6 2 bytes) (number_at 8 8 bytes)
    (number_at 16 8 bytes) (number_at 24 8 bytes) (drop 32 bytes)

-- the same, as it is decided where these requests are outstanding
abbrev pub request_by : (extended : Bool) → Core → List ℕ → Decision
request_by extended now bytes =
    let len : ℕ = number_at 24 (if extended then 8 else 4) bytes in
    decide (if extended then 32 else 28)
    (number_at 0 4 bytes == (if extended then EXTENDED_REQUEST_MAGIC else REQUEST_MAGIC))
    (request_fault extended (number_at 4 2 bytes) (number_at 6 2 bytes) (number_at 16 8 bytes) len)
    (request_payload_length extended (number_at 4 2 bytes) (number_at 6 2 bytes) len)
    (cookie_fault (number_at 6 2 bytes) (target (number_at 8 8 bytes) now.entries)) (request_of extended bytes)

-- the request that a reply with this cookie answers: it was outstanding when the reply started
abbrev pub operation_of : (old now : Core) → (cookie : ℕ) → Option Operation
operation_of old now cookie = option_and_then (λ k. operation k now.entries) (target cookie old.entries)

-- a simple reply
abbrev pub simple_of : List ℕ → Message
simple_of bytes = Simple (number_at 4 4 bytes) (number_at 8 8 bytes) (drop 16 bytes)

-- the same to this request, if there is one
abbrev pub simple_to : Exporting → Core → Option Operation → List ℕ → Decision
simple_to export now to bytes =
    decide 16 true (simple_fault now.structured to (number_at 4 4 bytes))
    (simple_payload_length to (number_at 4 4 bytes)) (simple_last_fault export to (number_at 4 4 bytes))
    (simple_of bytes)

-- a chunk, with an extended header or not
abbrev pub chunk_of : (extended : Bool) → List ℕ → Message
chunk_of false bytes = Chunk (number_at 4 2 bytes) (number_at 6 2 bytes) (number_at 8 8 bytes) (drop 20 bytes)
chunk_of true bytes = ExtendedChunk (number_at 4 2 bytes) (number_at 6 2 bytes) (number_at 8 8 bytes)
    (number_at 16 8 bytes) (drop 32 bytes)

-- what is refused at its last byte
abbrev pub chunk_last_fault : (extended : Bool) → Profile → Exporting → Option Operation → List ℕ → Option WireFault
chunk_last_fault extended profile export None bytes = None
chunk_last_fault extended profile export (Some e) bytes =
    let fault : Option WireFault = chunk_fault extended (number_at 6 2 bytes == chunks.NONE) export e
    (with_reply e (chunk_of extended bytes)) (number_at 4 2 bytes) (read_as profile (number_at 6 2 bytes))
    (drop (if extended then 32 else 20) bytes) in
    if extended then offset_fault fault e (number_at 16 8 bytes) else fault

-- a chunk to this request, if there is one
abbrev pub chunk_to : (extended : Bool) → Exporting → Core → Option Operation → List ℕ → Decision
chunk_to extended export now to bytes =
    let len : ℕ = if extended then number_at 24 8 bytes else number_at 16 4 bytes in
    decide (if extended then 32 else 20) true (chunk_head_fault extended now.structured to len) len
    (chunk_last_fault extended now.profile export to bytes) (chunk_of extended bytes)

-- the bytes have four that are this number
abbrev pub begins : (magic : ℕ) → List ℕ → Bool
begins magic bytes = nat_le 4 (length bytes) && (number_at 0 4 bytes == magic)

-- a reply to this request, if there is one, by whether extended headers are in force and by its magic number; bytes
-- that begin none are too few, or have another magic number
abbrev pub reply_in : (extended : Bool) → Exporting → Core → Option Operation → List ℕ → Decision
reply_in extended export now to bytes =
    if begins (if extended then EXTENDED_CHUNK_MAGIC else CHUNK_MAGIC) bytes then chunk_to extended export now to bytes
    else if not extended && begins SIMPLE_MAGIC bytes then simple_to export now to bytes
    else decide 4 false None 0 None (simple_of bytes)

-- what is decided of a side's bytes in a phase; none where the side may not send: after a DISC the client sends nothing
-- ("Request types"). `to` finds the request that a cookie names
abbrev pub decision_with : Phase → (to : ℕ → Option Operation) → (now : Core) → Side → List ℕ → Option Decision
decision_with Greet to now Server bytes = Some (greeting bytes)
decision_with Flags to now Client bytes = Some (client_flags now.offered bytes)
decision_with Choosing to now Client bytes = Some (choice bytes)
decision_with Naming to now Server bytes = Some (export_answer (has now.client_flags handshake.C_NO_ZEROES) bytes)
decision_with Aborting to now Server bytes = Some (abort_answer bytes)
decision_with (Answering option given info) to now Server bytes =
    Some
    (answer now.profile option (is_proper_option option given) (takes_contexts option given) info now.selection bytes)
decision_with (Transmission export) to now Client bytes =
    if now.disconnected then None else Some (request_by now.extended now bytes)
decision_with (Transmission export) to now Server bytes =
    Some (reply_in now.extended export now (to (number_at 8 8 bytes)) bytes)
decision_with phase to now s bytes = None

-- what reading says of bytes: more are to come, they are a whole message, or the last of them is refused
pub data Reading : Type 0 where
  More : Reading
  Whole : (message : Message) → Reading
  Bad : (fault : WireFault) → Reading

-- refused with this fault, or where there is none what comes next
abbrev pub unless : Option WireFault → Reading → Reading
unless (Some fault) next = Bad fault
unless None next = next

-- what a decision says of bytes
abbrev pub read_by : Decision → List ℕ → Reading
read_by d bytes =
    if nat_lt (length bytes) d.head_length then More
    else unless d.head_fault
    (if length bytes == d.head_length + d.payload_length then unless d.last_fault (Whole d.message) else More)

-- a side that may not send is refused at its first byte ("Fixed newstyle negotiation", "Request types")
abbrev pub reading_by_decision : Option Decision → List ℕ → Reading
reading_by_decision None bytes = Bad OutOfTurn
reading_by_decision (Some d) bytes = read_by d bytes

-- what reading says of a side's bytes in a phase, given what had completed before their first, and what has by now
abbrev pub judge_in : Phase → (old now : Core) → Side → List ℕ → Reading
judge_in phase old now s bytes =
    reading_by_decision (decision_with phase (operation_of old now) now s bytes) bytes
