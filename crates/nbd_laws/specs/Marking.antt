-- Laws of places: what reading says of runs.
use Rattle.std.specs.Prelude.{◌≡◌, ◌++◌, List, [], length}
use Rattle.nbd_wire.specs.{declared.{fault.WireFault.WireFault, message.Message.Message, profile.Profile.Profile}, Prelude.{ArePairs, Pair, Item, IsPlaceOf, IsUnderWayOf, IsRunOf, within, Begins, BeginsNoRunOf}}

-- where a run begins with these bytes, they are those of a session under way, with what completes within them
abbrev pub BeginningsAreUnderWay : Type 0
BeginningsAreUnderWay = (profile : Profile) (items : List Item) (ps : List Pair) → IsRunOf profile items → ArePairs ps
    → Begins items ps →
    IsUnderWayOf profile ps (within (length ps) items)

-- two sessions under way of the same bytes have the same messages
abbrev pub UnderWayAgree : Type 0
UnderWayAgree = (profile : Profile) (ps : List Pair) (messages more : List Message)
    → IsUnderWayOf profile ps messages → IsUnderWayOf profile ps more
    → messages ≡ more

-- no run begins with bytes that have a place
abbrev pub PlacesBeginNoRun : Type 0
PlacesBeginNoRun = (profile : Profile) (ps : List Pair) (messages : List Message) (fault : WireFault)
    → IsPlaceOf profile ps messages fault → BeginsNoRunOf profile ps

-- bytes have one place at most
abbrev pub HaveOnePlace : Type 0
HaveOnePlace = (profile : Profile) (ps : List Pair) (messages more : List Message) (fault other : WireFault) →
    IsPlaceOf profile ps messages fault → IsPlaceOf profile ps more other → (messages ≡ more) × (fault ≡ other)

-- nor has a proper prefix of bytes that have a place one
abbrev pub PrefixesHaveNoPlace : Type 0
PrefixesHaveNoPlace = (profile : Profile) (prefix rest : List Pair) (messages more : List Message)
    (fault other : WireFault) →
    IsPlaceOf profile (prefix ++ rest) messages fault → IsPlaceOf profile prefix more other → rest ≡ []
