-- What is answered where an order is looked for.
use Rattle.std.specs.Prelude.{◌≡◌, ℕ, zero, suc, List, [], ◌∷◌, ◌++◌, All, None}
use Rattle.nbd_order.specs.{Common.{Entry, Profile, whole, IsExplainedOf, Start, start_byte, Item, pairs, Report, report, IsRunOf, Passes, request_count, IsOtherSize}, declared.finding.{Found.{Found, TheVariants.{GaveUp, Image, NoneWhole, Order, Unexplained}}, Wanted.{Wanted, TheVariants.{Any, Whole}}}, Unexplained.{IsRefutedBy, IsUnexplained}}

-- the order of arrival: each of so many requests atomically, by number
abbrev pub arrival : ℕ → List Entry
arrival zero = []
arrival (suc n) = arrival n ++ whole (suc n) ∷ []

-- each entry serves its request atomically
abbrev pub AreWhole : List Entry → Type 0
AreWhole order = All (λ (e : Entry). e.part ≡ None) order

-- an order of whole requests, where only such a one is wanted
abbrev pub IsWantedOrder : Wanted → List Entry → Type 0
IsWantedOrder Any order = Unit {0}
IsWantedOrder Whole order = AreWhole order

-- the same of what is found; that none is whole is said only where one of whole requests is wanted
abbrev pub IsWanted : Wanted → Found → Type 0
IsWanted wanted (Order order) = IsWantedOrder wanted order.items
IsWanted wanted (Unexplained refutation) = Unit {0}
IsWanted wanted (Image image size) = Unit {0}
IsWanted wanted NoneWhole = wanted ≡ Whole
IsWanted wanted (GaveUp request offset reason) = Unit {0}

-- the order of arrival has a fault or a wrong byte
abbrev pub FailsArrival : Profile → Report → Start → Type 0
FailsArrival profile r initial = Passes profile r (arrival (request_count r)) initial → ⊥

-- what is said of a report in a profile: an order without a fault and without a wrong byte, READs or BLOCK_STATUS of
-- which one has a wrong byte in each order without a fault, or an image of another size; of every other answer only
-- that the order of arrival does not explain it
abbrev pub IsFound : Profile → Report → Start → Found → Type 0
IsFound profile r initial (Order order) = Passes profile r order.items initial
IsFound profile r initial (Unexplained refutation) =
    IsRefutedBy profile r (start_byte initial) refutation.offset refutation.reads.items
IsFound profile r initial (Image image size) = IsOtherSize r.export initial image size
IsFound profile r initial NoneWhole = FailsArrival profile r initial
IsFound profile r initial (GaveUp request offset reason) = FailsArrival profile r initial

-- the order of arrival does not explain the bytes of a run of the profile
abbrev pub IsUnexplainedByArrival : Profile → List Item → Start → Type 0
IsUnexplainedByArrival profile items initial =
    IsExplainedOf profile (pairs items) (arrival (request_count (report items))) initial → ⊥

-- what that says of the bytes of a run of the profile with this report: the order explains them, or no order does, or
-- at least that of arrival does not
abbrev pub Says : Profile → List Item → Start → Found → Type 0
Says profile items initial (Order order) = IsExplainedOf profile (pairs items) order.items initial
Says profile items initial (Unexplained refutation) = IsUnexplained profile (pairs items) initial
Says profile items initial (Image image size) = IsUnexplained profile (pairs items) initial
Says profile items initial NoneWhole = IsUnexplainedByArrival profile items initial
Says profile items initial (GaveUp request offset reason) = IsUnexplainedByArrival profile items initial

-- what is found of the report of a run of a profile, in it, is so of its bytes
abbrev pub FoundIsSo : Type 0
FoundIsSo = (profile : Profile) (items : List Item) (initial : Start) (found : Found) → IsRunOf profile items
    → IsFound profile (report items) initial found → Says profile items initial found
