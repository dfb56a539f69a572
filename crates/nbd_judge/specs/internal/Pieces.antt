-- Where the pieces of a READ differ from contents, and these pieces in the order of their offsets.
use Rattle.std.specs.{Prelude.{ℕ, List, ◌≡◌, ◌+◌, ◌<◌, ◌≤◌, ◌⊎◌, Option, Some, IsTrue, map, slice_get}, Borrow.Bor, BTreeMap.{BTreeMap, get}, Ordering.nat_cmp, declared.vec.Vec.Vec}
use Rattle.nbd_wire.specs.{declared.{entry.Part.Part, payloads.Piece.Piece}, Prelude.{Differs, holds, is_in, piece_byte, piece_offset, piece_size}}

-- x lies in the piece, whose byte there is not the known one
abbrev pub DiffersInPiece : (ℕ → Option ℕ) → Piece → ℕ → Type 0
DiffersInPiece byte piece x = IsTrue (holds piece x) × Differs byte (λ y. Some (piece_byte piece y)) x

-- one of the first n pieces differs at x
abbrev pub DiffersInOneOf : (ℕ → Option ℕ) → List Piece → ℕ → ℕ → Type 0
DiffersInOneOf byte pieces n x = (i : ℕ) × (p : Piece) × (i < n) × (slice_get pieces i ≡ Some p)
    × DiffersInPiece byte p x

-- each piece lies inside the export
abbrev pub AreInside : ℕ → List Piece → Type 0
AreInside size pieces = (i : ℕ) (p : Piece) → slice_get pieces i ≡ Some p → piece_offset p + piece_size p ≤ size

-- the same at an offset in a part
abbrev pub DiffersWithin : (ℕ → Option ℕ) → Piece → Part → ℕ → Type 0
DiffersWithin byte piece part x = DiffersInPiece byte piece x × IsTrue (is_in part.offset part.length x)

-- one of the first n pieces differs at x, in a part
abbrev pub DiffersInOneWithin : (ℕ → Option ℕ) → List Piece → ℕ → Part → ℕ → Type 0
DiffersInOneWithin byte pieces n part x = DiffersInOneOf byte pieces n x × IsTrue (is_in part.offset part.length x)

-- no two of the pieces hold the same offset
abbrev pub AreApart : List Piece → Type 0
AreApart pieces =
    (i j : ℕ) (p q : Piece) (x : ℕ) → slice_get pieces i ≡ Some p → slice_get pieces j ≡ Some q → IsTrue (holds p x)
    → IsTrue (holds q x) → i ≡ j

-- the piece is one of these
abbrev pub IsOneOf : List Piece → Piece → Type 0
IsOneOf pieces p = (i : ℕ) × (slice_get pieces i ≡ Some p)

-- the chosen ones are those of the pieces that hold an offset with the property
pub record AreThose (P : ℕ → Type 0) (pieces chosen : List Piece) : Type 0 where
  pub among : (i : ℕ) (p : Piece) → slice_get chosen i ≡ Some p → IsOneOf pieces p
  pub only : (i : ℕ) (p : Piece) → slice_get chosen i ≡ Some p → (x : ℕ) × IsTrue (holds p x) × P x
  pub all : (i : ℕ) (p : Piece) (x : ℕ) → slice_get pieces i ≡ Some p → IsTrue (holds p x) → P x → IsOneOf chosen p

-- no piece is empty, and each ends where a later one begins, or before
pub record AreInOrder (pieces : List Piece) : Type 0 where
  pub filled : (i : ℕ) (p : Piece) → slice_get pieces i ≡ Some p → 0 < piece_size p
  pub apart : (i j : ℕ) (p q : Piece) → i < j → slice_get pieces i ≡ Some p → slice_get pieces j ≡ Some q
      → piece_offset p + piece_size p ≤ piece_offset q

-- the pieces that hold an offset, in the order of their offsets
pub record AreSorted (pieces sorted : List Piece) : Type 0 where
  pub those : AreThose (λ x. Unit {0}) pieces sorted
  pub in_order : AreInOrder sorted

-- what a map has of request k are these pieces in order
abbrev pub IsSortedAt : {A : Type 0} → BTreeMap ℕ (Vec (Bor Piece) A) → ℕ → List Piece → Type 0
IsSortedAt {A} reads k pieces = (v : Vec (Bor Piece) A) → get nat_cmp reads k ≡ Some v
    → AreSorted pieces (map (λ p. p.now) v.items)

-- the new map has what the old one has, and of request k it may have these pieces in order
abbrev pub AddsSorted : {A : Type 0} → (old new : BTreeMap ℕ (Vec (Bor Piece) A)) → ℕ → List Piece → Type 0
AddsSorted {A} old new k pieces =
    (j : ℕ) (v : Vec (Bor Piece) A) → get nat_cmp new j ≡ Some v
    → (get nat_cmp old j ≡ Some v) ⊎ ((j ≡ k) × AreSorted pieces (map (λ p. p.now) v.items))
