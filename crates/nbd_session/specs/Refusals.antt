-- What a session's fault says of the bytes that it was given and of its messages.
use Rattle.std.specs.Prelude.{◌≡◌, ◌≢◌, ◌⊎◌, ◌∷◌, ◌++◌, ℕ, List, [], Option, Some, None, length}
use Rattle.nbd_wire.specs.{declared.{profile.Profile.Profile, message.Message.Message, fault.WireFault.{WireFault, TheVariants.Unfinished}}, Prelude.{Pair, IsPlaceOf, IsUnderWayOf, CompletesExactlyOf, IsOfNoRunOf, BeginsNoRunOf}}
use Rattle.nbd_session.specs.{declared.fault.SessionFault.{SessionFault, TheVariants.{Memory, Wire}}, Sessions.{SessionView, pairs_of, bytes_taken}}

-- a fault at the last of these bytes, which is the place that the profile's rules name, with these messages: no run
-- begins with them, and before the last one exactly these messages complete in each run that begins so
pub record IsRefusalOf (profile : Profile) (ps : List Pair) (messages : List Message) (fault : WireFault) : Type 0 where
  pub place : IsPlaceOf profile ps messages fault
  pub none : BeginsNoRunOf profile ps
  pub before : (prefix : List Pair) (last : Pair) → ps ≡ prefix ++ last ∷ []
      → CompletesExactlyOf profile prefix messages

-- no prefix of these bytes has a place
abbrev pub HasNoPlaceOf : Profile → List Pair → Type 0
HasNoPlaceOf profile ps = (prefix rest : List Pair) (messages : List Message) (fault : WireFault)
    → prefix ++ rest ≡ ps → IsPlaceOf profile prefix messages fault → ⊥

-- bytes taken without a fault, and their messages: the session is under way with these messages, no prefix of the bytes
-- has a place, and these messages complete in each run that begins with them
pub record IsAcceptedOf (profile : Profile) (ps : List Pair) (messages : List Message) : Type 0 where
  pub under_way : IsUnderWayOf profile ps messages
  pub placeless : HasNoPlaceOf profile ps
  pub all : CompletesExactlyOf profile ps messages

-- an end within a message: no fault was met, some bytes are open at their end, and no run has exactly these bytes
pub record IsOpenEndOf (profile : Profile) (ps : List Pair) (messages : List Message) : Type 0 where
  pub accepted : IsAcceptedOf profile ps messages
  pub leaves_open : (accepted.under_way.end.rests.client.bytes ≢ []) ⊎ (accepted.under_way.end.rests.server.bytes ≢ [])
  pub none : IsOfNoRunOf profile ps

-- the fault of a capture, and the messages that completed before it: at the last byte of a prefix, or at the end of all
abbrev pub IsWireFaultOf : Profile → (capture : List Pair) → List Message → (at : ℕ) → WireFault → Type 0
IsWireFaultOf profile capture messages at fault =
    ((prefix : List Pair) × (rest : List Pair) × (prefix ++ rest ≡ capture) × (at ≡ length prefix)
    × IsRefusalOf profile prefix messages fault)
    ⊎ (fault ≡ Unfinished) × (at ≡ length capture) × IsOpenEndOf profile capture messages

-- a session that answers this fault was refused at the last byte that it took; of out of memory nothing is said
abbrev pub Refuses : SessionView → SessionFault → Type 0
Refuses r (Wire at fault) = (at ≡ bytes_taken r) × IsRefusalOf r.profile (pairs_of r) r.messages fault
Refuses r Memory = Unit {0}

-- a session that ends in this fault
abbrev pub EndsIn : SessionView → SessionFault → Type 0
EndsIn r (Wire at fault) = IsWireFaultOf r.profile (pairs_of r) r.messages at fault
EndsIn r Memory = Unit {0}

-- the bytes of a session that no fault closed were taken without one, with its messages; one that is closed was refused
abbrev pub IsCompleteBy : Option SessionFault → SessionView → Type 0
IsCompleteBy None r = IsAcceptedOf r.profile (pairs_of r) r.messages
IsCompleteBy (Some fault) r = Refuses r fault

-- the same of a session, by the fault that closed it
abbrev pub IsComplete : SessionView → Type 0
IsComplete r = IsCompleteBy r.closed r
