-- What is known of the bytes that have come of a side, by what its head says.
use Rattle.std.specs.Prelude.{◌≡◌, ◌<◌, ◌≤◌, ◌++◌, ℕ, List, [], Option, Some, None, length}
use Rattle.nbd_wire.specs.{declared.message.Side.{Side, TheVariants.{Client, Server}}, Prelude.{Core, Decision, IsFilled, Reader, get, old_of}}
use Rattle.nbd_laws.specs.Reached.{decision, awaited_length}
use Rattle.nbd_session.specs.{declared.{expected.Expected.Expected, monitor.Monitor.Monitor}, Incoming.{IncomingView, bytes_come}, internal.{Expecting.{IsPlaced, expected_decision, payload_length_of}, Standing.{Holding, Past}}}

-- what is decided of these bytes of a side, where the reader stands
abbrev pub decided : Reader → Side → List ℕ → Option Decision
decided reader s bytes = decision reader.core.phase (old_of reader.core (get reader.rests s)) reader.core s bytes

-- the next length at which something is decided of a side's bytes
abbrev pub awaited : Reader → Side → ℕ
awaited reader s = awaited_length (old_of reader.core (get reader.rests s)) reader.core s
    (get reader.rests s).bytes

-- the head is whole, and this is decided of it and any bytes after it
pub record IsExpected (decided : List ℕ → Option Decision) (core : Core) (head : List ℕ) (x : Expected) : Type 0 where
  pub filled : IsFilled head
  pub placed : IsPlaced core x
  pub is : (payload : List ℕ) → decided (head ++ payload) ≡ Some (expected_decision core x (length head) payload)

-- no head that is decided is as short as these bytes
abbrev pub IsShort : (decided : List ℕ → Option Decision) → (head : List ℕ) → Type 0
IsShort decided head = (d : Decision) → decided head ≡ Some d → length head < d.head_length

abbrev pub is_known_by : (decided : List ℕ → Option Decision) → Core → (head payload : List ℕ) → Option Expected
    → Type 0
is_known_by decided core head payload (Some x) = IsExpected decided core head x
is_known_by decided core head payload None = (payload ≡ []) × IsShort decided head

-- between two steps: the head is not whole, or what it says is known
abbrev pub IsKnown : (decided : List ℕ → Option Decision) → Core → IncomingView → Type 0
IsKnown decided core v = is_known_by decided core v.head v.payload v.expected

abbrev pub is_come_by : (decided : List ℕ → Option Decision) → Core → (head payload : List ℕ) → Option Expected → Type 0
is_come_by decided core head payload (Some x) = IsExpected decided core head x × (length payload ≤ payload_length_of x)
is_come_by decided core head payload None = (payload ≡ [])
    × ((d : Decision) → decided head ≡ Some d → length head ≤ d.head_length)

-- where bytes were taken up to the awaited length
abbrev pub IsCome : (decided : List ℕ → Option Decision) → Core → IncomingView → Type 0
IsCome decided core v = is_come_by decided core v.head v.payload v.expected

abbrev pub holding_of : Monitor → Past → Holding
holding_of held past = record {
  profile = held.state.profile;
  past = past;
  client = bytes_come held.client;
  server = bytes_come held.server;
  counted = held.counted;
}

-- what has come of a side after its messages
abbrev pub incoming_of : Monitor → Side → IncomingView
incoming_of held Client = held.client
incoming_of held Server = held.server

-- a side's replaced
abbrev pub with_incoming : Monitor → Side → IncomingView → Monitor
with_incoming held Client v = record held { client = v }
with_incoming held Server v = record held { server = v }

-- where a side's head says this
abbrev pub with_expected : Monitor → Side → Option Expected → Monitor
with_expected held s expected = with_incoming held s (record (incoming_of held s) { expected = expected })
