-- Where reading refuses: the place of a refusal, and a session under way.
use Rattle.std.specs.Prelude.{List, [], ◌∷◌, ◌++◌, ◌≡◌, Ok, Err}
use Rattle.nbd_wire.specs.{declared.{fault.WireFault.WireFault, message.Message.Message, profile.Profile.{Profile, TheVariants.Base}}, protocol.{Captures.{Pair, ArePairs}, Reading.{Reader, fresh_of, reads, step}}}

-- a session of the profile under way: these bytes are read without a fault, with these messages
pub record IsUnderWayOf (profile : Profile) (ps : List Pair) (messages : List Message) : Type 0 where
  pub are_pairs : ArePairs ps
  pub end : Reader
  pub reads_it : reads (fresh_of profile) ps ≡ Ok end
  pub has_messages : end.messages ≡ messages

-- the place of these bytes in the profile is the last of them, with this fault: all before it are read without a fault,
-- with these messages, and it is refused
pub record IsPlaceOf (profile : Profile) (ps : List Pair) (messages : List Message) (fault : WireFault) : Type 0 where
  pub are_pairs : ArePairs ps
  pub prefix : List Pair
  pub last : Pair
  pub parts : ps ≡ prefix ++ last ∷ []
  pub before : IsUnderWayOf profile prefix messages
  pub refused : step before.end last.from last.byte ≡ Err fault

-- the same, of the profile Base
abbrev pub IsPlace : List Pair → List Message → WireFault → Type 0
IsPlace ps messages fault = IsPlaceOf Base ps messages fault
