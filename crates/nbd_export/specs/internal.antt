-- Slices and parts of a range that are compared, and a range that is laid over ranges of one kind.
use Rattle.std.specs.Prelude.{ℕ, List, ◌≡◌, ◌<◌, length, slice_index, ◌+◌, ◌≤◌, Option, Some, None}
use Rattle.nbd_export.specs.{declared.{kind.Kind.{Kind, TheVariants.Zeroes}, kinds.Kinds.Kinds, pages.Pages.Pages}, Ranges.{DiffersIn, bytes_from}, Pages.stored_byte, RangeKinds.{byte_by_kind, kind_of}, Kinds.{IsApartAt, kind_at}}

-- the lists have different bytes at an index below the first one's length
abbrev pub DifferAt : List ℕ → List ℕ → ℕ → Type 0
DifferAt xs ys i = (i < length xs) × (slice_index xs i ≡ slice_index ys i → ⊥)

-- the list has a byte other than 0 at this index
abbrev pub IsNonzeroAt : List ℕ → ℕ → Type 0
IsNonzeroAt xs i = (i < length xs) × (slice_index xs i ≡ 0 → ⊥)

-- x lies where these bytes are laid from the offset on, and has a known byte other than the one there
abbrev pub DiffersFrom : (byte : ℕ → Option ℕ) (offset : ℕ) → List ℕ → ℕ → Type 0
DiffersFrom byte offset bytes x = DiffersIn byte offset (length bytes) (bytes_from offset bytes) x

-- the bytes of a range are all of the kind of the first
abbrev pub AreOneKind : (kind : ℕ → Option Kind) (offset len : ℕ) → Type 0
AreOneKind kind offset len = (x : ℕ) → offset ≤ x → x < offset + len → kind x ≡ kind offset

-- below the size, where zeroes were seen, a byte that is known is 0
abbrev pub HasZeroesAlone : (seen kinds : Kinds) → Pages → Type 0
HasZeroesAlone seen kinds pages =
    (x b : ℕ) → x < kinds.size → kind_of seen x ≡ Some Zeroes
    → byte_by_kind (kind_of kinds x) (stored_byte pages x) ≡ Some b → b ≡ 0

-- one range of this kind lies from an offset to before another; the ranges around it are as they were
pub record IsOverlay (old new : ℕ → Option Kind) (first end size : ℕ) (kind : Kind) : Type 0 where
  pub before : (x : ℕ) → x < first → new x ≡ old x
  pub here : new first ≡ Some kind
  pub between : (x : ℕ) → first < x → x < end → new x ≡ None
  pub split : end < size → new end ≡ kind_at old end
  pub kept : size ≤ end → new end ≡ old end
  pub behind : (x : ℕ) → end < x → new x ≡ old x

-- the range that begins here, if one does, is joined to the one before it where both are of one kind
pub record IsJoin (old new : ℕ → Option Kind) (at : ℕ) : Type 0 where
  pub kinds : (x : ℕ) → kind_at new x ≡ kind_at old x
  pub others : (x : ℕ) → (x ≡ at → ⊥) → new x ≡ old x
  pub first : new 0 ≡ old 0
  pub fewer : (x : ℕ) → old x ≡ None → new x ≡ None
  pub apart : IsApartAt new at
