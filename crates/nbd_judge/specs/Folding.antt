-- What an order of service leaves on the export, and how its entries change contents one after another.
use Rattle.std.specs.Prelude.{ℕ, List, [], ◌∷◌, ◌≡◌, Option, Some, None, if◌then◌else◌, take, length}
use Rattle.nbd_wire.specs.{declared.entry.{Entry.Entry, Part.Part}, Prelude.{Effect, byte_before, effect_byte, touches, effects, Report}}
use Rattle.nbd_export.specs.Ranges.{AreSameBelow}

-- the contents after an entry with this part serves a request, if there is one
abbrev pub contents_with_effect : Option Part → Option Effect → (ℕ → Option ℕ) → ℕ → Option ℕ
contents_with_effect p (Some e) old x = if touches p e x then effect_byte e x else old x
contents_with_effect p None old x = old x

-- the contents after these entries, taken one after the other
abbrev pub contents_after : (ℕ → Option Effect) → List Entry → (ℕ → Option ℕ) → ℕ → Option ℕ
contents_after requests [] old = old
contents_after requests (entry ∷ order) old =
    contents_after requests order (contents_with_effect entry.part (requests entry.request) old)

-- taken forward, the contents after the entries before entry i are the bytes looked up backwards from it
abbrev pub Folding : Type 0
Folding = (requests : ℕ → Option Effect) (order : List Entry) (initial : ℕ → Option ℕ) (i x : ℕ) →
    contents_after requests (take i order) initial x ≡ byte_before requests order initial i x

-- the byte at x behind the last entry: what the last change left, or else the byte at first
abbrev pub byte_behind : Report → List Entry → (ℕ → Option ℕ) → ℕ → Option ℕ
byte_behind r order initial x = byte_before (effects r) order initial (length order) x

-- contents of this size, with these bytes at first, hold what the order leaves
abbrev pub HoldsLeft : Report → List Entry → (size new_size : ℕ) → (old new : ℕ → Option ℕ) → Type 0
HoldsLeft r order size new_size old new = (new_size ≡ size) × AreSameBelow size new (byte_behind r order old)
