-- A session that a monitor follows.
use Rattle.std.specs.Prelude.{◌≡◌, ◌++◌, ℕ, List, Some, None, Result, Err, IfErr, OnOk}
use Rattle.nbd_wire.specs.{declared.message.Side.Side, Prelude.side_pairs}
use Rattle.nbd_session.specs.{Incoming.bytes_come, Refusals.Refuses, Sessions.{AddsPrefix, SessionView, pairs_of}, declared.{fault.SessionFault.SessionFault, monitor.Monitor.Monitor}, internal.{Standing.Past, Steps.IsKept}}

-- what a session was given
abbrev pub past_of : SessionView → Past
past_of r = record { pairs = pairs_of r; messages = r.messages }

-- the monitor stands where the session stands, which has the same profile, open bytes and fault
pub record Follows (held : Monitor) (r : SessionView) : Type 0 where
  pub kept : IsKept held (past_of r)
  pub profile_is : held.state.profile ≡ r.profile
  pub client_is : bytes_come held.client ≡ r.client
  pub server_is : bytes_come held.server ≡ r.server
  pub closed_is : held.closed ≡ r.closed

-- what a push of a side's piece makes of a session, and answers
pub record IsPushed (old new : SessionView) (s : Side) (piece : List ℕ)
    (answer : Result (Unit {0}) SessionFault) : Type 0 where
  pub profile : new.profile ≡ old.profile
  pub added : OnOk answer (pairs_of new ≡ pairs_of old ++ side_pairs s piece)
  pub unclosed : OnOk answer (new.closed ≡ None)
  pub prefix : AddsPrefix old new s piece
  pub refused : IfErr answer (λ fault. new.closed ≡ Some fault)
  pub closed : (fault : SessionFault) → old.closed ≡ Some fault → (answer ≡ Err fault) × (new ≡ old)
  pub wire : IfErr answer (Refuses new)
