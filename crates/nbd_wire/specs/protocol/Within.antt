-- What completes in a run within the bytes that it begins with.
use Rattle.std.specs.Prelude.{ℕ, zero, suc, List, [], ◌∷◌, ◌++◌, ◌≡◌, length}
use Rattle.nbd_wire.specs.{declared.{message.Message.Message, profile.Profile.Profile}, protocol.{Marks.{Item, Byte, Completes, pairs}, Captures.Pair, Rules.IsRunOf}}

-- the messages that complete within the first n bytes, in order
abbrev pub within : ℕ → List Item → List Message
within n [] = []
within n (Completes s m ∷ items) = m ∷ within n items
within zero (Byte s b ∷ items) = []
within (suc n) (Byte s b ∷ items) = within n items
within n (item ∷ items) = within n items

-- the items begin with these bytes
abbrev pub Begins : List Item → List Pair → Type 0
Begins items ps = (more : List Pair) × (pairs items ≡ ps ++ more)

-- no run of the profile begins with these bytes, whatever the moments of service
abbrev pub BeginsNoRunOf : Profile → List Pair → Type 0
BeginsNoRunOf profile ps = (items : List Item) → IsRunOf profile items → Begins items ps → ⊥

-- no run of the profile has exactly these bytes, whatever the moments of service
abbrev pub IsOfNoRunOf : Profile → List Pair → Type 0
IsOfNoRunOf profile ps = (items : List Item) → IsRunOf profile items → pairs items ≡ ps → ⊥

-- in each run of the profile that begins with these bytes exactly these messages complete within them
abbrev pub CompletesExactlyOf : Profile → List Pair → List Message → Type 0
CompletesExactlyOf profile ps messages = (items : List Item) → IsRunOf profile items → Begins items ps
    → within (length ps) items ≡ messages
