-- What the prefix of a run or of a message's bytes may be.
use Rattle.std.specs.Prelude.{◌≡◌, ℕ, List, [], ◌∷◌, ◌++◌, if◌then◌else◌}
use Rattle.nbd_wire.specs.{declared.{message.{Side.Side, Message.Message}, profile.Profile.Profile}, Prelude.{enc, Item, Byte, Starts, Completes, Serves, IsRunOf, MayComplete, IsSendable, side, same_side, Core, flat}}

-- of two messages of one side that may complete in one state, neither's bytes are a proper prefix of the other's, and
-- equal bytes are of one message
abbrev pub NoProperPrefix : Type 0
NoProperPrefix = (core : Core) (m n : Message) (rest : List ℕ) → side m ≡ side n → IsSendable m → IsSendable n →
    MayComplete core core.phase m → MayComplete core core.phase n → enc m ≡ enc n ++ rest → (m ≡ n) × (rest ≡ [])

-- the messages of a side that have started, in order
abbrev pub started_messages : Side → List Item → List Message
started_messages s [] = []
started_messages s (Starts t m ∷ items) =
    if same_side s t then m ∷ started_messages s items else started_messages s items
started_messages s (Byte t b ∷ items) = started_messages s items
started_messages s (Completes t m ∷ items) = started_messages s items
started_messages s (Serves e ∷ items) = started_messages s items

-- the messages of a side that have completed, in order
abbrev pub ended_messages : Side → List Item → List Message
ended_messages s [] = []
ended_messages s (Completes t m ∷ items) = if same_side s t then m ∷ ended_messages s items else ended_messages s items
ended_messages s (Byte t b ∷ items) = ended_messages s items
ended_messages s (Starts t m ∷ items) = ended_messages s items
ended_messages s (Serves e ∷ items) = ended_messages s items

-- each message that has started has completed
abbrev pub HasNoneOpen : List Item → Type 0
HasNoneOpen items = (s : Side) → started_messages s items ≡ ended_messages s items

-- a prefix of a run at which no message is open is a run
abbrev pub PrefixesAreRuns : Type 0
PrefixesAreRuns = (profile : Profile) (prefix back : List Item) → IsRunOf profile (prefix ++ back)
    → HasNoneOpen prefix → IsRunOf profile prefix

-- a message starts directly before its first byte
abbrev pub StartsStandBeforeBytes : Type 0
StartsStandBeforeBytes = (profile : Profile) (prefix back : List Item) (s : Side) (m : Message)
    → IsRunOf profile (prefix ++ Starts s m ∷ back) →
    (b : ℕ) × (left : List ℕ) × (rest : List Item) × (back ≡ Byte s b ∷ rest) × (enc m ≡ b ∷ left)

-- a message completes directly after a byte of its side
abbrev pub CompletionsStandAfterBytes : Type 0
CompletionsStandAfterBytes = (profile : Profile) (prefix back : List Item) (s : Side) (m : Message)
    → IsRunOf profile (prefix ++ Completes s m ∷ back) →
    (first : List Item) × (b : ℕ) × (prefix ≡ first ++ Byte s b ∷ [])

-- a record cut in two leaves the flat capture as it is
abbrev pub CutsDoNotCount : Type 0
CutsDoNotCount = (prefix back : List (Side × List ℕ)) (s : Side) (bytes more : List ℕ) →
    flat (prefix ++ (s, bytes ++ more) ∷ back) ≡ flat (prefix ++ (s, bytes) ∷ (s, more) ∷ back)
