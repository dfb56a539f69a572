-- When a capture is explained, from any one run with its bytes.
use Rattle.std.specs.Prelude.{◌≡◌, ℕ, List}
use Rattle.nbd_wire.specs.{declared.{entry.Entry.Entry, profile.Profile.{Profile, TheVariants.Base}}, Prelude.{IsExplainedOf, Start, Item, pairs, Pair, report, IsRunOf, Passes, answered_count, improper_count, request_count}}

-- where a run passes the tests, its bytes are explained
abbrev pub PassingIsExplained : Type 0
PassingIsExplained = (profile : Profile) (items : List Item) (order : List Entry) (initial : Start)
    → IsRunOf profile items → Passes profile (report items) order initial
    → IsExplainedOf profile (pairs items) order initial

-- where the bytes of a run are explained, it passes the tests
abbrev pub ExplainedPasses : Type 0
ExplainedPasses = (profile : Profile) (items : List Item) (order : List Entry) (initial : Start)
    → IsRunOf profile items → IsExplainedOf profile (pairs items) order initial
    → Passes profile (report items) order initial

-- the counts of a yes, the same for each run of the profile with these bytes
abbrev pub HasCountsOf : Profile → List Pair → (of_requests of_answered of_improper : ℕ) → Type 0
HasCountsOf profile capture of_requests of_answered of_improper =
    (items : List Item) → IsRunOf profile items → pairs items ≡ capture → (request_count (report items) ≡ of_requests)
    × (answered_count (report items) ≡ of_answered) × (improper_count profile (report items) ≡ of_improper)

-- the answer to a capture is yes with these counts
pub record IsYesOf (profile : Profile) (capture : List Pair) (order : List Entry) (initial : Start)
    (of_requests of_answered of_improper : ℕ) : Type 0 where
  pub explained : IsExplainedOf profile capture order initial
  pub counts : HasCountsOf profile capture of_requests of_answered of_improper

-- the same, of the profile Base
abbrev pub IsYes : List Pair → List Entry → Start → (of_requests of_answered of_improper : ℕ) → Type 0
IsYes capture order initial of_requests of_answered of_improper =
    IsYesOf Base capture order initial of_requests of_answered of_improper

-- the order does not explain the capture
abbrev pub IsNoOf : Profile → List Pair → List Entry → Start → Type 0
IsNoOf profile capture order initial = IsExplainedOf profile capture order initial → ⊥

-- the same, of the profile Base
abbrev pub IsNo : List Pair → List Entry → Start → Type 0
IsNo capture order initial = IsNoOf Base capture order initial
