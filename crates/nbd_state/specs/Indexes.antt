-- The sizes of spans by their offsets, and an index of pieces.
use Rattle.std.specs.{Prelude.{ℕ, List, IsTrue, ◌≡◌, ◌+◌, ◌<◌, ◌≤◌, ◌==◌, ◌⊎◌, Option, Some, None, true, false, if◌then◌else◌}, BTreeMap.{BTreeMap, btree_map_len, get}, Ordering.nat_cmp}
use Rattle.nbd_wire.specs.{declared.payloads.Piece.Piece, Prelude.{is_in, piece_offset, piece_size, is_apart_from}}

-- the size of the span that begins at an offset, where one does
abbrev pub size_from : BTreeMap ℕ ℕ → ℕ → Option ℕ
size_from sizes x = get nat_cmp sizes x

-- of two ranges, each an offset and a size, one lies before the other
abbrev pub IsApart : (offset size k n : ℕ) → Type 0
IsApart offset size k n = (offset + size ≤ k) ⊎ (k + n ≤ offset)

-- the range lies apart from each of the spans
abbrev pub IsFree : (ℕ → Option ℕ) → (offset size : ℕ) → Type 0
IsFree sizes offset size = (k n : ℕ) → sizes k ≡ Some n → IsApart offset size k n

-- the range does not lie apart from one of the spans
abbrev pub Meets : (ℕ → Option ℕ) → (offset size : ℕ) → Type 0
Meets sizes offset size = (k : ℕ) × (n : ℕ) × (sizes k ≡ Some n) × (IsApart offset size k n → ⊥)

-- x lies in none of the spans
abbrev pub IsBare : (ℕ → Option ℕ) → ℕ → Type 0
IsBare sizes x = (k n : ℕ) → sizes k ≡ Some n → is_in k n x ≡ false

-- x lies in one of the spans
abbrev pub IsHeld : (ℕ → Option ℕ) → ℕ → Type 0
IsHeld sizes x = (k : ℕ) × (n : ℕ) × (sizes k ≡ Some n) × IsTrue (is_in k n x)

-- each offset of the range lies in one of the spans
abbrev pub Covers : (ℕ → Option ℕ) → (offset size : ℕ) → Type 0
Covers sizes offset size = (x : ℕ) → IsTrue (is_in offset size x) → IsHeld sizes x

-- so many bytes from x on lie in the span that holds it; 0 where none does
abbrev pub IsHeldFrom : (ℕ → Option ℕ) → (x count : ℕ) → Type 0
IsHeldFrom sizes x count = ((count ≡ 0) × IsBare sizes x) ⊎ ((0 < count) × Covers sizes x count)

-- the new sizes have one more span, where none began
abbrev pub HasMore : (old new : ℕ → Option ℕ) → (offset size : ℕ) → Type 0
HasMore old new offset size = (old offset ≡ None) × ((x : ℕ) → new x ≡ (if offset == x then Some size else old x))

-- what lies apart from the pieces in the index is what lies apart from these pieces
pub record IsIndex (sizes : ℕ → Option ℕ) (pieces : List Piece) : Type 0 where
  pub free : (p : Piece) → IsFree sizes (piece_offset p) (piece_size p) → is_apart_from p pieces ≡ true
  pub meets : (p : Piece) (k n : ℕ) → sizes k ≡ Some n → (IsApart (piece_offset p) (piece_size p) k n → ⊥)
      → is_apart_from p pieces ≡ false

-- an index that holds pieces is one of these
abbrev pub Indexes : BTreeMap ℕ ℕ → List Piece → Type 0
Indexes sizes pieces = 0 < btree_map_len sizes → IsIndex (size_from sizes) pieces
