-- What a session holds, what of a run that is, and what a piece adds to it.
use Rattle.std.specs.Prelude.{◌≡◌, ◌++◌, ℕ, List, [], Option, Some, None, Result, Ok, Err, length}
use Rattle.nbd_wire.specs.{declared.{profile.Profile.{Profile, TheVariants.Base}, message.{Message.Message, Side.Side}, fault.WireFault.TheVariants.Unfinished}, Prelude.{Item, completed_messages, pairs, Pair, side_pairs, Report, report, IsRunOf, IsRunBut}}
use Rattle.nbd_session.specs.{Pushed.{Stretch, pushed_pairs}, declared.fault.SessionFault.{SessionFault, TheVariants.{Memory, Wire}}}

-- the profile that the session is held to, the accepted messages in the order of their completion, each side's bytes
-- after its messages, the stretches of all bytes, and the fault that closed the session, if one did
pub record SessionView : Type 0 where
  pub profile : Profile
  pub messages : List Message
  pub client : List ℕ
  pub server : List ℕ
  pub stretches : List Stretch
  pub closed : Option SessionFault

-- the bytes that were taken, with their senders
abbrev pub pairs_of : SessionView → List Pair
pairs_of r = pushed_pairs r.messages r.client r.server r.stretches

-- how many bytes were taken
abbrev pub bytes_taken : SessionView → ℕ
bytes_taken r = length (pairs_of r)

-- some run of the profile, but for these bytes after each side's last message, has the pairs, and these messages
-- complete in it in this order
pub record HasRunOf (profile : Profile) (ps : List Pair) (messages : List Message)
    (client server : List ℕ) : Type 0 where
  pub items : List Item
  pub is_run : IsRunBut profile items client server
  pub has_pairs : pairs items ≡ ps
  pub has_messages : completed_messages items ≡ messages

-- what was taken belongs to such a run
abbrev pub IsOfRun : SessionView → Type 0
IsOfRun r = HasRunOf r.profile (pairs_of r) r.messages r.client r.server

-- of a side's piece all but `left` was taken, and more messages may have been accepted
pub record Adds (before after : List Pair) (earlier later : List Message) (s : Side)
    (piece left : List ℕ) : Type 0 where
  pub prefix : List ℕ
  pub more : List Message
  pub parts : prefix ++ left ≡ piece
  pub has_pairs : after ≡ before ++ side_pairs s prefix
  pub has_messages : later ≡ earlier ++ more

-- a prefix of a side's piece was taken, and more messages may have been accepted
abbrev pub AddsPrefix : (old new : SessionView) → Side → (piece : List ℕ) → Type 0
AddsPrefix old new s piece = (left : List ℕ) × Adds (pairs_of old) (pairs_of new) old.messages new.messages s piece left

-- a wire fault names the last byte that was taken
abbrev pub IsAtEnd : SessionView → SessionFault → Type 0
IsAtEnd r (Wire at fault) = at ≡ bytes_taken r
IsAtEnd r Memory = Unit {0}

-- a message that started has not completed where bytes of a side stand after its messages
abbrev pub open_end_fault : (client server : List ℕ) → (at : ℕ) → Option SessionFault
open_end_fault [] [] at = None
open_end_fault client server at = Some (Wire at Unfinished)

-- the fault that closed it, or else this one
abbrev pub end_by : Option SessionFault → Option SessionFault → Option SessionFault
end_by (Some fault) last = Some fault
end_by None last = last

-- the fault of a session that is to end
abbrev pub fault_at_end : SessionView → Option SessionFault
fault_at_end r = end_by r.closed (open_end_fault r.client r.server (bytes_taken r))

-- the fault of an answer, if it is one
abbrev pub fault_of : {A : Type 0} → Result A SessionFault → Option SessionFault
fault_of (Ok a) = None
fault_of (Err fault) = Some fault

-- before the first byte
abbrev pub empty_session_of : Profile → SessionView
empty_session_of profile = record {
  profile = profile;
  messages = [];
  client = [];
  server = [];
  stretches = [];
  closed = None;
}

-- the same, of the profile Base
abbrev pub empty_session : SessionView
empty_session = empty_session_of Base

-- some run of the profile has exactly the bytes that were taken and these messages, and each such run this report
pub record IsReported (r : SessionView) (found : Report) : Type 0 where
  pub items : List Item
  pub is_run : IsRunOf r.profile items
  pub has_pairs : pairs items ≡ pairs_of r
  pub has_messages : completed_messages items ≡ r.messages
  pub same_report : (others : List Item) → IsRunOf r.profile others → pairs others ≡ pairs_of r
      → report others ≡ found
