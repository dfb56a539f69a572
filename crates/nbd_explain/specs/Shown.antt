-- What a run of `show` says of its capture and leaves written, where the reader and the writer state their bytes.
use Rattle.std.specs.{Prelude.{◌≡◌, ◌⊎◌, ℕ, List, [], ◌++◌, Bool, true, false, Option, IfSome, codes, length}, Io.KnownBytes.{Appends, Keeps}}
use Rattle.nbd_explain.specs.Common.{Message, Profile, WireFault, Pair, IsOfNoRunOf, Chunk, IsCaptureText, AppendsPrefix, IsWireFaultOf, HasRunOf, message_lines, RunFault, Write, IsCapture, IsCaptureCause, flat_of, line}
use Rattle.nbd_wire.specs.declared.verdict.Verdict.TheVariants.{Wire}
use Rattle.nbd_files.specs.declared.fault.RunFault.TheVariants.{Memory}

-- the prefix of a capture's bytes is that of a run of the profile, but for bytes after each side's last message, and
-- these messages complete in that run, in this order
pub record Leads (profile : Profile) (capture prefix : List Pair) (messages : List Message) : Type 0 where
  pub rest : List Pair
  pub client : List ℕ
  pub server : List ℕ
  pub parts : prefix ++ rest ≡ capture
  pub run : HasRunOf profile prefix messages client server

-- what is to be shown of a capture's bytes: the answer, the messages and the last line. A run of the profile has
-- exactly these bytes: all its messages and `ok`. Or no such run has them: the messages that completed before the
-- fault, and the line of the wire fault.
pub data IsShown (profile : Profile) (capture : List Pair) : Bool → List Message → List ℕ → Type 0 where
  accepted : (messages : List Message) → HasRunOf profile capture messages [] []
      → IsShown profile capture true messages (codes "ok\n")
  refused : (prefix : List Pair) (messages : List Message) (fault : WireFault)
      → Leads profile capture prefix messages → IsWireFaultOf profile capture messages (length prefix) fault
      → IsOfNoRunOf profile capture
      → IsShown profile capture false messages (line (Wire (length prefix) fault))

-- a capture's session of the profile was shown
pub record WritesAll (profile : Profile) (known : Option (List ℕ)) (yes : Bool)
    (old new : Option (List ℕ)) : Type 0 where
  pub chunks : List Chunk
  pub is_text : IfSome known (λ text. IsCaptureText text chunks)
  pub messages : List Message
  pub last : List ℕ
  pub is_shown : IsShown profile (flat_of chunks) yes messages last
  pub appended : Appends old new (message_lines messages ++ last)

-- a prefix of what is to be shown of a session of the profile was written
pub record WritesSome (profile : Profile) (known old new : Option (List ℕ)) : Type 0 where
  pub chunks : List Chunk
  pub is_text : IfSome known (λ text. IsCaptureText text chunks)
  pub yes : Bool
  pub messages : List Message
  pub last : List ℕ
  pub is_shown : IsShown profile (flat_of chunks) yes messages last
  pub appended : AppendsPrefix old new (message_lines messages ++ last)

-- a prefix of what is to be shown of a session of the profile was written, of its message lines alone
pub record WritesMessages (profile : Profile) (known old new : Option (List ℕ)) : Type 0 where
  pub chunks : List Chunk
  pub is_text : IfSome known (λ text. IsCaptureText text chunks)
  pub yes : Bool
  pub messages : List Message
  pub last : List ℕ
  pub is_shown : IsShown profile (flat_of chunks) yes messages last
  pub appended : AppendsPrefix old new (message_lines messages)

-- what a fault says of the known bytes of the capture
abbrev pub IsShowCause : Option (List ℕ) → RunFault → Type 0
IsShowCause known Write = IsCapture known
IsShowCause known fault = IsCaptureCause known fault

-- what stands written after a fault: a prefix of what is to be shown of a session of the profile where the writer
-- failed, a prefix of the message lines or nothing after out of memory, else nothing
abbrev pub LeavesShown : Profile → (known old new : Option (List ℕ)) → RunFault → Type 0
LeavesShown profile known old new Write = WritesSome profile known old new
LeavesShown profile known old new Memory = Keeps old new ⊎ WritesMessages profile known old new
LeavesShown profile known old new _ = Keeps old new

-- in a profile a capture has one output at most: one answer, the same messages and the same last line
abbrev pub OneOutput : Type 0
OneOutput = (profile : Profile) (capture : List Pair) (yes no : Bool) (messages more : List Message)
    (last other : List ℕ) → IsShown profile capture yes messages last → IsShown profile capture no more other
    → (yes ≡ no) × (messages ≡ more) × (last ≡ other)
