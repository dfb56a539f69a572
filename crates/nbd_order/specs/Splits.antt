-- A session in two parts, of which the second stands as a session of its own behind another negotiation.
use Rattle.std.specs.Prelude.{ℕ, List, [], ◌++◌, ◌+◌, ◌<◌, ◌≡◌, ◌↔◌, Some, length, map}
use Rattle.nbd_order.specs.{Common.{Entry, Profile, Held, IsExplainedOf, Start, start_byte, Item, pairs, without_service, Exporting, Pending, Asked, Report, asked_at, report, IsRunOf, ends_at, sizes_kept, Core, Transmission, in_force, start, held_from, size_of}, Leaving.left}

-- where the messages of a run have led
abbrev pub core_of : List Item → Core
core_of items = (ends_at start items).core

-- a run is cut behind its first part: no message is half-way there, transmission is reached, and each request has its
-- whole reply
pub record IsCut (profile : Profile) (first rest : List Item) (export : Exporting) : Type 0 where
  pub is_run : IsRunOf profile first
  pub goes_on : IsRunOf profile (first ++ rest)
  pub in_transmission : (core_of first).phase ≡ Transmission export
  pub answered : (k : ℕ) (a : Asked) → asked_at k (report first).asked ≡ Some a → a.outcome ≡ Pending → ⊥

-- a negotiation leads to where that part stands, without its requests: to the same size and flags, the same form of
-- replies, the same contexts and block sizes
pub record LeadsThere (first negotiation : List Item) : Type 0 where
  pub phase : (core_of negotiation).phase ≡ (core_of first).phase
  pub structured : (core_of negotiation).structured ≡ (core_of first).structured
  pub contexts : in_force (core_of negotiation) ≡ in_force (core_of first)
  pub sizes : sizes_kept (core_of negotiation).sizing ≡ sizes_kept (core_of first).sizing
  pub no_request : (core_of negotiation).entries ≡ []

-- behind the negotiation the rest stands again: the same bytes and messages
pub record StandsAgain (profile : Profile) (first rest negotiation again : List Item) : Type 0 where
  pub leads : LeadsThere first negotiation
  pub is_run : IsRunOf profile (negotiation ++ again)
  pub same : without_service again ≡ without_service rest

-- an entry of the second part as an entry of the whole, whose first part has n requests
abbrev pub behind : (n : ℕ) → List Entry → List Entry
behind n order = map (λ (e : Entry). record { request = n + e.request; part = e.part }) order

-- what the first part leaves, as a start
abbrev pub start_behind : Report → List Entry → Start → Start
start_behind r order initial = Held (held_from (left r order (start_byte initial)) 0 (size_of r.export))

-- an order of the whole is one of each part, one behind the other; it explains the first part, and the second one from
-- what the first left
pub record IsExplainedInParts (profile : Profile) (first second : List Item) (order : List Entry)
    (initial : Start) : Type 0 where
  pub earlier : List Entry
  pub later : List Entry
  pub parts : order ≡ earlier ++ behind (length (report first).asked) later
  pub first_is : IsExplainedOf profile (pairs first) earlier initial
  pub second_is : IsExplainedOf profile (pairs second) later (start_behind (report first) earlier initial)

-- an order explains a session exactly where it does so in two parts
abbrev pub SplitsAreExplained : Type 0
SplitsAreExplained = (profile : Profile) (first rest negotiation again : List Item) (export : Exporting)
    (order : List Entry) (initial : Start) → IsCut profile first rest export
    → StandsAgain profile first rest negotiation again
    → IsExplainedOf profile (pairs (first ++ rest)) order initial
    ↔ IsExplainedInParts profile first (negotiation ++ again) order initial

-- and the second part leaves what the whole does
abbrev pub SplitsLeaveTheSame : Type 0
SplitsLeaveTheSame = (profile : Profile) (first rest negotiation again : List Item) (export : Exporting)
    (order : List Entry) (initial : Start) → IsCut profile first rest export
    → StandsAgain profile first rest negotiation again
    → (parts : IsExplainedInParts profile first (negotiation ++ again) order initial) → (x : ℕ) → x < export.size
    → left (report (first ++ rest)) order (start_byte initial) x
    ≡ left (report (negotiation ++ again)) parts.later (start_byte (start_behind (report first) parts.earlier initial))
    x
