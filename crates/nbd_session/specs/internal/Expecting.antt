-- What is expected of a message whose head has come: which message it is with the bytes after its head, how many those
-- are, and what its last byte shows to be wrong.
use Rattle.std.specs.Prelude.{◌≡◌, ◌<◌, ◌+◌, ◌==◌, ◌++◌, ℕ, suc, List, Bool, true, false, Option, Some, None, length, if◌then◌else◌, min, slice_get, not, ◌&&◌, ◌||◌}
use Rattle.nbd_state.specs.{Places.{place_at, chunk_of, chunk_with}, Showing.IsShown, declared.{state.{Export.Export, Phase.Phase, State.State}, asked.Exchange.Exchange}, Shows.Shows}
use Rattle.nbd_wire.specs.declared.chunks.TheConstants as chunks
use Rattle.nbd_wire.specs.declared.{fault.WireFault.{WireFault, TheVariants.{OutOfProfile}}, magics.TheConstants.{SIMPLE_MAGIC}, message.{Message.Message, Side.{Side, TheVariants.{Client, Server}}}, profile.Profile.Profile, heads.transmission.{ChunkHead.ChunkHead, RequestHead.RequestHead}}
use Rattle.nbd_wire.specs.{protocol.{Flags.{has, has_only}, Transmission.{chunk_head_fault, offset_fault, request_payload_length, simple_payload_length}}, Prelude.{Context, Exporting, Operation, Core, Transmission, operation, target, with_reply, Decision, begins, earlier_to, padding_fault, payload_fault, fault_if, chunk_fault, cookie_fault, is_too_large, read_as, simple_fault, simple_last_fault}}
use Rattle.nbd_wire.specs.declared.handshake.TheConstants as handshake
use Rattle.nbd_wire.specs.declared.head_lengths.TheConstants as head_lengths
use Rattle.nbd_wire.specs.declared.message.Message.TheVariants as messages
use Rattle.nbd_wire.specs.protocol.States as definitions
use Rattle.nbd_session.specs.{internal.{decision_by_count, operation_counted, Leading.{chunk_head_length, chunk_magic, request_head_length}}, declared.{deciding.Form.Form, expected.Expected.{Expected, TheVariants.{Greeting, ClientFlags, Choice, Answer, Exported, Request, Simple, Chunk}}}}
use Rattle.nbd_session.specs.declared.deciding.Form.TheVariants as forms
use Rattle.nbd_state.specs.declared.state.Phase.TheVariants as program

-- a request; the length of one without an extended header has 32 bits
abbrev pub request_with : (extended : Bool) → RequestHead → List ℕ → Message
request_with false head payload =
    messages.Request head.flags head.command head.cookie head.offset (min head.length 0xffffffff) payload
request_with true head payload =
    messages.ExtendedRequest head.flags head.command head.cookie head.offset head.length payload

-- the message, with the bytes after its head
abbrev pub message_of : Expected → List ℕ → Message
message_of (Greeting flags) payload = messages.Greeting flags
message_of (ClientFlags flags) payload = messages.ClientFlags flags
message_of (Choice head) payload = messages.Choice head.id payload
message_of (Answer head proper) payload = messages.Answer head.option head.kind payload
message_of (Exported size flags padded) payload = messages.Exported size flags padded
message_of (Request head) payload = request_with head.extended head payload
message_of (Simple head place len) payload = messages.Simple head.error head.cookie payload
message_of (Chunk head place) payload = chunk_of head payload

-- how many bytes come after its head
abbrev pub payload_length_of : Expected → ℕ
payload_length_of (Greeting flags) = 0
payload_length_of (ClientFlags flags) = 0
payload_length_of (Choice head) = head.length
payload_length_of (Answer head proper) = head.length
payload_length_of (Exported size flags padded) = if padded then head_lengths.PADDING else 0
payload_length_of (Request head) = request_payload_length head.extended head.flags head.command head.length
payload_length_of (Simple head place len) = len
payload_length_of (Chunk head place) = head.length

-- the client's flags have one that is unknown, or that the server did not offer
abbrev pub sets_more : (offered flags : ℕ) → Bool
sets_more offered flags =
    not (has_only flags (handshake.C_FIXED_NEWSTYLE + handshake.C_NO_ZEROES))
    || (has flags handshake.C_NO_ZEROES && not (has offered handshake.NO_ZEROES))

abbrev pub success_fault_if : Profile → List Context → Option Bool → (kind : ℕ) → List ℕ → Option WireFault
success_fault_if profile earlier (Some proper) kind payload = payload_fault profile earlier proper kind payload
success_fault_if profile earlier None kind payload = None

abbrev pub padding_fault_if : Bool → List ℕ → Option WireFault
padding_fault_if true payload = padding_fault payload
padding_fault_if false payload = None

-- what the last byte of a chunk shows to be wrong, with an extended header at this offset or another one
abbrev pub chunk_fault_by : (at : Option ℕ) → Profile → Exporting → Operation → (flags kind cookie : ℕ) → List ℕ
    → Option WireFault
chunk_fault_by None profile export e flags kind cookie payload =
    chunk_fault false (kind == chunks.NONE) export e
    (with_reply e (chunk_with None flags kind cookie payload)) flags (read_as profile kind) payload
chunk_fault_by (Some offset) profile export e flags kind cookie payload =
    offset_fault
    (chunk_fault true (kind == chunks.NONE) export e
    (with_reply e (chunk_with (Some offset) flags kind cookie payload)) flags (read_as profile kind) payload)
    e offset

abbrev pub chunk_fault_to : Profile → Exporting → Option Operation → ChunkHead → List ℕ → Option WireFault
chunk_fault_to profile export None h payload = None
chunk_fault_to profile export (Some e) h payload = chunk_fault_by h.at profile export e h.flags h.kind h.cookie payload

-- a payload behind an extended header that is too large
abbrev pub is_too_long : (at : Option ℕ) → (len : ℕ) → Bool
is_too_long None len = false
is_too_long (Some offset) len = is_too_large len

-- what the head of a chunk shows to be wrong
abbrev pub head_fault_by : (at : Option ℕ) → (structured : Bool) → Option Operation → (len : ℕ) → Option WireFault
head_fault_by at structured to len =
    fault_if (is_too_long at len) OutOfProfile (chunk_head_fault false structured to len)

-- what its last byte shows to be wrong, where so much has completed
abbrev pub last_fault_by : definitions.Phase → Core → Expected → List ℕ → Option WireFault
last_fault_by phase core (Answer head proper) payload =
    success_fault_if core.profile (earlier_to head.option core.selection) proper head.kind payload
last_fault_by phase core (Exported size flags padded) payload = padding_fault_if padded payload
last_fault_by phase core (Request head) payload = cookie_fault head.command (target head.cookie core.entries)
last_fault_by (Transmission export) core (Simple head place len) payload =
    simple_last_fault export (operation (place + 1) core.entries) head.error
last_fault_by (Transmission export) core (Chunk head place) payload =
    chunk_fault_to core.profile export (operation (place + 1) core.entries) head payload
last_fault_by phase core expected payload = None

-- the request that a reply answers has this place
abbrev pub IsPlaced : Core → Expected → Type 0
IsPlaced core (Simple head place len) = target head.cookie core.entries ≡ Some (suc place)
IsPlaced core (Chunk head place) = target head.cookie core.entries ≡ Some (suc place)
IsPlaced core expected = Unit {0}

-- the request that a reply answers has its exchange
abbrev pub StandsIn : State → Expected → Type 0
StandsIn state (Simple head place len) = place < length state.exchanges.items
StandsIn state (Chunk head place) =
    (place < length state.exchanges.items) × (place_at state.outstanding head.cookie ≡ Some place)
StandsIn state expected = Unit {0}

-- the place of the request that a reply answers
abbrev pub place_answered : Expected → ℕ
place_answered (Simple head place len) = place
place_answered (Chunk head place) = place
place_answered expected = 0

-- what is decided of its head and the bytes after it
abbrev pub expected_decision : Core → Expected → (head_length : ℕ) → List ℕ → Decision
expected_decision core expected head payload = record {
  head_length = head;
  head_fault = None;
  payload_length = payload_length_of expected;
  last_fault = last_fault_by core.phase core expected payload;
  message = message_of expected payload;
}

-- the head is whole and without a fault, and this is decided of it and any bytes after it
abbrev pub IsExpectedOf : (counted : ℕ) → Core → Side → (head : List ℕ) → Expected → Type 0
IsExpectedOf counted core s head expected = (payload : List ℕ) →
    decision_by_count counted core s (head ++ payload) ≡ Some (expected_decision core expected (length head) payload)

-- the place of the request that a cookie names, of those up to the count, where an exchange shows it; none for no name
abbrev pub IsPlaceOf : Exporting → Core → (counted cookie : ℕ) → List Exchange → Option ℕ → Type 0
IsPlaceOf export core counted cookie exchanges None = operation_counted counted core cookie ≡ None
IsPlaceOf export core counted cookie exchanges (Some place) =
    (e : Operation) × (x : Exchange) × (operation_counted counted core cookie ≡ Some e)
    × (operation (place + 1) core.entries ≡ Some e) × (slice_get exchanges place ≡ Some x) × IsShown export e x
    × (target cookie core.entries ≡ Some (suc place))

-- what is decided of a simple reply with these fields, to the request that it names
pub record IsSimpleOf (export : Exporting) (core : Core) (to : Option Operation) (error cookie : ℕ)
    (expected : Expected) : Type 0 where
  pub no_fault : simple_fault core.structured to error ≡ None
  pub length_is : payload_length_of expected ≡ simple_payload_length to error
  pub last_is : (payload : List ℕ) → last_fault_by (Transmission export) core expected payload
      ≡ simple_last_fault export to error
  pub message_is : (payload : List ℕ) → message_of expected payload ≡ messages.Simple error cookie payload
  pub placed : IsPlaced core expected

-- what is decided of a chunk with these fields, to the request that it names
pub record IsChunkOf (export : Exporting) (core : Core) (to : Option Operation) (h : ChunkHead)
    (expected : Expected) : Type 0 where
  pub no_fault : head_fault_by h.at core.structured to h.length ≡ None
  pub length_is : payload_length_of expected ≡ h.length
  pub last_is : (payload : List ℕ) → last_fault_by (Transmission export) core expected payload
      ≡ chunk_fault_to core.profile export to h payload
  pub message_is : (payload : List ℕ) → message_of expected payload ≡ chunk_of h payload
  pub placed : IsPlaced core expected

-- how long the head is; of a reply without its number this is as long
abbrev pub form_length : Form → ℕ
form_length forms.Greeting = head_lengths.GREETING
form_length forms.ClientFlags = head_lengths.CLIENT_FLAGS
form_length forms.Choice = head_lengths.CHOICE
form_length forms.Exported = head_lengths.EXPORT
form_length forms.Aborted = head_lengths.ANSWER
form_length (forms.Answer chosen) = head_lengths.ANSWER
form_length (forms.Request extended) = request_head_length extended
form_length forms.Reply = 4
form_length forms.Simple = head_lengths.SIMPLE
form_length (forms.Chunk extended) = chunk_head_length extended

-- the form of a reply's head, by the number that it begins with
abbrev pub IsReplyForm : (extended : Bool) → List ℕ → Form → Type 0
IsReplyForm extended head forms.Simple = (extended ≡ false) × (begins SIMPLE_MAGIC head ≡ true)
IsReplyForm extended head (forms.Chunk x) = (extended ≡ x) × (begins (chunk_magic x) head ≡ true)
IsReplyForm extended head forms.Reply = (begins (chunk_magic extended) head ≡ false)
    × ((not extended && begins SIMPLE_MAGIC head) ≡ false)
IsReplyForm extended head form = ⊥

-- requests and replies may come
abbrev pub InTransmission : Phase → Type 0
InTransmission phase = (export : Export) × (phase ≡ program.Transmission export)

-- a side's head has this form where the session stands
abbrev pub IsFormOf : State → Side → List ℕ → Form → Type 0
IsFormOf state s head forms.Greeting = (s ≡ Server) × (state.phase ≡ program.Greet)
IsFormOf state s head forms.ClientFlags = (s ≡ Client) × (state.phase ≡ program.Flags)
IsFormOf state s head forms.Choice = (s ≡ Client) × (state.phase ≡ program.Choosing)
IsFormOf state s head forms.Exported = (s ≡ Server) × (state.phase ≡ program.Naming)
IsFormOf state s head forms.Aborted = (s ≡ Server) × (state.phase ≡ program.Aborting)
IsFormOf state s head (forms.Answer chosen) = (s ≡ Server) × (state.phase ≡ program.Answering chosen)
IsFormOf state s head (forms.Request x) = (s ≡ Client) × InTransmission state.phase × (state.disconnected ≡ false)
    × (state.extended ≡ x)
IsFormOf state s head form = (s ≡ Server) × InTransmission state.phase × IsReplyForm state.extended head form

-- the form that was found; none where the side may not send
abbrev pub IsFormFound : State → Side → List ℕ → Option Form → Type 0
IsFormFound state s head (Some form) = IsFormOf state s head form
IsFormFound state s head None = (core : Core) (counted : ℕ) → Shows state core
    → decision_by_count counted core s head ≡ None

-- the head is whole, and its last byte shows this fault
pub record IsRefusedHead (counted : ℕ) (core : Core) (s : Side) (head : List ℕ) (fault : WireFault) : Type 0 where
  pub decision : Decision
  pub decided : decision_by_count counted core s head ≡ Some decision
  pub length_is : decision.head_length ≡ length head
  pub fault_is : decision.head_fault ≡ Some fault

-- this is the length of the head that the judge sees in the bytes
abbrev pub HasHeadLength : State → Side → List ℕ → ℕ → Type 0
HasHeadLength state s head n = (core : Core) (counted : ℕ) → Shows state core
    → (d : Decision) × (decision_by_count counted core s head ≡ Some d) × (d.head_length ≡ n)
