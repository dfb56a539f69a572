-- Bytes by their offsets, each known or unknown, and what a change and a comparison of a range mean.
-- A range is an offset and a length, in bytes from the start of the export.
use Rattle.std.specs.Prelude.{ℕ, List, ◌≡◌, ◌+◌, ◌-◌, ◌<◌, ◌≤◌, ◌&&◌, nat_le, nat_lt, Bool, if◌then◌else◌, Option, Some, None, slice_get}

-- x lies in the range; one of length 0 holds no offset
abbrev pub is_in : (offset len x : ℕ) → Bool
is_in offset len x = nat_le offset x && nat_lt x (offset + len)

-- the new bytes inside the range, the old ones outside it
abbrev pub overlay : (offset len : ℕ) → (new old : ℕ → Option ℕ) → ℕ → Option ℕ
overlay offset len new old x = if is_in offset len x then new x else old x

-- these bytes, the first of them at the offset
abbrev pub bytes_from : ℕ → List ℕ → ℕ → Option ℕ
bytes_from offset bytes x = slice_get bytes (x - offset)

-- 0 everywhere
abbrev pub zeroes : ℕ → Option ℕ
zeroes x = Some 0

-- no byte is known
abbrev pub unknown : ℕ → Option ℕ
unknown x = None

-- the same byte, or an unknown one in both, at each offset below the size
abbrev pub AreSameBelow : ℕ → (ℕ → Option ℕ) → (ℕ → Option ℕ) → Type 0
AreSameBelow size f g = (x : ℕ) → x < size → f x ≡ g x

-- x lies in the range and has a known byte, which is not the given one
abbrev pub DiffersIn : (byte : ℕ → Option ℕ) (offset len : ℕ) (given : ℕ → Option ℕ) → ℕ → Type 0
DiffersIn byte offset len given x = (offset ≤ x) × (x < offset + len)
    × ((b : ℕ) × (byte x ≡ Some b) × (given x ≡ Some b → ⊥))

-- the least number with the property, or None where no number has it
abbrev pub IsLeast : (ℕ → Type 0) → Option ℕ → Type 0
IsLeast P (Some n) = P n × ((m : ℕ) → m < n → P m → ⊥)
IsLeast P None = (n : ℕ) → P n → ⊥
