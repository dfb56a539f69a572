-- How a session that is shown stands at its end, and the last line.
use Rattle.std.specs.{Prelude.{◌≡◌, ℕ, List, [], ◌++◌, Bool, true, false, Option, Some, None, IfSome, Result, IfOk, IfErr, codes}, Io.KnownBytes.Keeps}
use Rattle.nbd_tool.specs.{Common.{Profile, Wire, Pair, Report, Chunk, IsCaptureText, AppendsPrefix, SessionFault, EndsIn, Refuses, IsReported, SessionView, bytes_taken, fault_at_end, fault_of, pairs_of, RunFault, Write, Memory}, Runs.flat_of, Verdicts.line}
use Rattle.nbd_session.specs.declared.fault.SessionFault.TheVariants as session

-- a fault of the wire at this byte
abbrev pub IsWireAt : ℕ → SessionFault → Type 0
IsWireAt n (session.Wire at fault) = at ≡ n
IsWireAt n session.Memory = ⊥

-- a session that is held to the profile took all of a capture's bytes, or was closed by a wire fault at the last one
-- that it took
pub record IsOver (profile : Profile) (capture : List Pair) (r : SessionView) : Type 0 where
  pub profile_is : r.profile ≡ profile
  pub left : List Pair
  pub parts : pairs_of r ++ left ≡ capture
  pub all : r.closed ≡ None → left ≡ []
  pub at : IfSome r.closed (IsWireAt (bytes_taken r))
  pub refused : IfSome r.closed (Refuses r)

-- a session of the profile over the chunks of a capture text, where its bytes are known
pub record IsOverText (profile : Profile) (known : Option (List ℕ)) (r : SessionView) : Type 0 where
  pub chunks : List Chunk
  pub is_text : IfSome known (λ text. IsCaptureText text chunks)
  pub over : IsOver profile (flat_of chunks) r

-- what a session of the profile over the chunks of a capture text came to at its end
pub record IsFinishOf (profile : Profile) (known : Option (List ℕ))
    (finished : Result Report SessionFault) : Type 0 where
  pub session : SessionView
  pub over : IsOverText profile known session
  pub fault : fault_of finished ≡ fault_at_end session
  pub report : IfOk finished (IsReported session)
  pub wire : IfErr finished (EndsIn session)

-- the session was accepted
abbrev pub is_accepted : Option SessionFault → Bool
is_accepted None = true
is_accepted (Some fault) = false

-- the line that states how a session ended
abbrev pub last_line : Option SessionFault → List ℕ
last_line None = codes "ok\n"
last_line (Some (session.Wire at fault)) = line (Wire at fault)
last_line (Some session.Memory) = []

-- what stands of the last line after a fault
abbrev pub LeavesLast : Option SessionFault → (old new : Option (List ℕ)) → RunFault → Type 0
LeavesLast ended old new Write = AppendsPrefix old new (last_line ended)
LeavesLast ended old new Memory = Keeps old new
LeavesLast ended old new _ = ⊥
