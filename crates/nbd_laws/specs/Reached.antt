-- The states that a session can be in, and the next length at which something is decided of a side's bytes.
use Rattle.nbd_wire.specs.{declared.{message.{Message.Message, Side.Side}, profile.Profile.Profile}, Prelude.{MayComplete, complete, IsSendable, Core, start_of, Decision, Exporting, Operation, Phase, judge_in, number_at}, protocol.{Rules.MayStartIn, Decisions.{Reading, decision_with, operation_of, reply_in}}}
use Rattle.std.specs.Prelude.{ℕ, List, ◌+◌, nat_lt, if◌then◌else◌, Option, Some, None, length}

-- what completed messages lead to, of each profile
pub data IsReached : Core → Type 0 where
  at_start : {profile : Profile} → IsReached (start_of profile).core
  after_message : {c : Core} (m : Message) → IsReached c → IsSendable m → MayComplete c c.phase m
      → IsReached (complete c m)

-- what is decided of a side's bytes in a phase, by what had completed before the first of them
abbrev pub decision : Phase → (old now : Core) → Side → List ℕ → Option Decision
decision phase old now s bytes = decision_with phase (operation_of old now) now s bytes

-- what a message's first byte needs there
abbrev pub MayStart : Core → Side → Message → Type 0
MayStart core s m = MayStartIn core.phase core s m

-- what reading says of a side's bytes
abbrev pub judge : (old now : Core) → Side → List ℕ → Reading
judge old now s bytes = judge_in now.phase old now s bytes

-- what is decided of a reply; `to` finds the request that a cookie names
abbrev pub reply_with : Exporting → (to : ℕ → Option Operation) → (now : Core) → List ℕ → Decision
reply_with export to now bytes = reply_in now.extended export now (to (number_at 8 8 bytes)) bytes

-- the end of the head, and behind it that of the message; a side that may not send is refused at its first byte
abbrev pub awaited_length_by : Option Decision → List ℕ → ℕ
awaited_length_by None bytes = 1
awaited_length_by (Some d) bytes =
    if nat_lt (length bytes) d.head_length then d.head_length else d.head_length + d.payload_length

-- the same of a side's bytes, where the session stands
abbrev pub awaited_length : (old now : Core) → Side → List ℕ → ℕ
awaited_length old now s bytes = awaited_length_by (decision now.phase old now s bytes) bytes
