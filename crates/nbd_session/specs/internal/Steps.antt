-- What holds of a monitor and the past between two steps, and of one that is closed.
use Rattle.std.specs.Prelude.{◌≡◌, ◌<◌, ◌≤◌, ◌++◌, ℕ, List, [], length, Option, Some, None}
use Rattle.nbd_wire.specs.{declared.{fault.WireFault.WireFault, message.Side.Side}, Prelude.{Core, AreBytes, Decision, reading_by_decision, Bad, IsPlaceOf, IsFilled, Reader, get}}
use Rattle.nbd_session.specs.{declared.{expected.Expected.Expected, fault.SessionFault.{SessionFault, TheVariants.{Memory, Wire}}, monitor.Monitor.Monitor}, internal.{Known.{holding_of, incoming_of, IsCome, IsExpected, IsKnown, awaited, decided}, Expecting.{last_fault_by, payload_length_of}, Standing.{Holding, IsReadTo, Past, with_bytes}}, Sessions.HasRunOf}
use Rattle.nbd_state.specs.Shows.{AreKnown, Shows}

-- under way
pub record Stands (held : Monitor) (past : Past) : Type 0 where
  pub unclosed : held.closed ≡ None
  pub reader : Reader
  pub read_to : IsReadTo (holding_of held past) reader
  pub shows : Shows held.state reader.core
  pub known : AreKnown reader.known held.state.exchanges.items
  pub taken_is : held.taken ≡ length past.pairs
  pub knows : (s : Side) → IsKnown (decided reader s) reader.core (incoming_of held s)

-- what is held is of a run
abbrev pub HoldsRun : Holding → Type 0
HoldsRun h = HasRunOf h.profile h.past.pairs h.past.messages h.client h.server

-- why it is closed: at a wire fault the place is the last byte that was taken
abbrev pub IsCause : Monitor → Past → SessionFault → Type 0
IsCause held past (Wire at fault) = (at ≡ held.taken) × IsPlaceOf held.state.profile past.pairs past.messages fault
IsCause held past Memory = Unit {0}

-- closed
pub record IsShut (held : Monitor) (past : Past) (fault : SessionFault) : Type 0 where
  pub run : HoldsRun (holding_of held past)
  pub taken_is : held.taken ≡ length past.pairs
  pub cause : IsCause held past fault

-- between two steps: it is under way, or it is closed
abbrev pub IsKeptBy : Option SessionFault → Monitor → Past → Type 0
IsKeptBy None held past = Stands held past
IsKeptBy (Some fault) held past = IsShut held past fault

abbrev pub IsKept : Monitor → Past → Type 0
IsKept held past = IsKeptBy held.closed held past

-- more bytes of a side were taken, up to the awaited length, and not yet judged
pub record IsTaken (held : Monitor) (s : Side) (past : Past) : Type 0 where
  pub unclosed : held.closed ≡ None
  pub before : Holding
  pub reader : Reader
  pub read_to : IsReadTo before reader
  pub more : List ℕ
  pub filled : IsFilled more
  pub are_bytes : AreBytes more
  pub up_to : length ((get reader.rests s).bytes ++ more) ≤ awaited reader s
  pub holding_is : holding_of held past ≡ with_bytes before s more (length reader.core.entries)
  pub shows : Shows held.state reader.core
  pub known : AreKnown reader.known held.state.exchanges.items
  pub taken_is : held.taken ≡ length past.pairs
  pub come : IsCome (decided reader s) reader.core (incoming_of held s)
  pub knows : (u : Side) → (s ≡ u → ⊥) → IsKnown (decided reader u) reader.core (incoming_of held u)

abbrev pub knows_by : (decided : List ℕ → Option Decision) → Core → (head payload : List ℕ) → Option Expected → Type 0
knows_by decided core head payload (Some x) = IsExpected decided core head x × (length payload ≤ payload_length_of x)
knows_by decided core head payload None = (payload ≡ []) × (d : Decision) × (decided head ≡ Some d)
    × (length head < d.head_length)

-- after bytes were taken: this is what their head says, or it is not whole
abbrev pub Knows : Monitor → Side → Option Expected → Type 0
Knows held s expected = (past : Past) (t : IsTaken held s past) → knows_by (decided t.reader s) t.reader.core
    (incoming_of held s).head (incoming_of held s).payload expected

-- after bytes were taken: those of the head are refused
abbrev pub IsHeadRefused : Monitor → Side → WireFault → Type 0
IsHeadRefused held s fault = (past : Past) (t : IsTaken held s past)
    → ((incoming_of held s).payload ≡ [])
    × (reading_by_decision (decided t.reader s (incoming_of held s).head) (incoming_of held s).head ≡ Bad fault)

-- bytes were taken, and this is what their head says
pub record IsExpecting (held : Monitor) (s : Side) (x : Expected) (past : Past) : Type 0 where
  pub taken : IsTaken held s past
  pub expected_is : (incoming_of held s).expected ≡ Some x
  pub is : IsExpected (decided taken.reader s) taken.reader.core (incoming_of held s).head x
  pub within : length (incoming_of held s).payload ≤ payload_length_of x

-- the same, and they are a whole message whose last byte breaks no rule
pub record IsWhole (held : Monitor) (s : Side) (x : Expected) (past : Past) : Type 0 where
  pub expecting : IsExpecting held s x past
  pub whole : length (incoming_of held s).payload ≡ payload_length_of x
  pub no_fault : last_fault_by expecting.taken.reader.core.phase expecting.taken.reader.core x
      (incoming_of held s).payload ≡ None
