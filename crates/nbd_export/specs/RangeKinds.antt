-- The kind of each byte of an export, where ranges of one kind cover it, and what it says of the byte.
use Rattle.std.specs.Prelude.{ℕ, ◌≡◌, Option, Some, None, IsSome}
use Rattle.nbd_export.specs.{declared.{kind.Kind.{Kind, TheVariants.{Unknown, Zeroes, Bytes}}, kinds.Kinds.Kinds}, Kinds.{kind_at, kind_from}}

-- the kind of the byte at an offset below the size
abbrev pub kind_of : Kinds → ℕ → Option Kind
kind_of kinds x = kind_at (kind_from kinds.starts) x

-- what a range of this kind says of a byte, which is written down as given: nothing, 0, or that byte
abbrev pub byte_by_kind : Option Kind → ℕ → Option ℕ
byte_by_kind (Some Unknown) stored = None
byte_by_kind (Some Zeroes) stored = Some 0
byte_by_kind (Some Bytes) stored = Some stored
byte_by_kind None stored = None

-- what is known of a byte is what a range of this kind says: nothing, 0, or a byte
abbrev pub IsOfKind : Kind → Option ℕ → Type 0
IsOfKind Unknown byte = byte ≡ None
IsOfKind Zeroes byte = byte ≡ Some 0
IsOfKind Bytes byte = IsSome byte
