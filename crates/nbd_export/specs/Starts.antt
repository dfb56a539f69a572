-- What an export holds at first, and what it holds from an offset on.
use Rattle.std.specs.Prelude.{ℕ, ◌≡◌, ◌-◌, Option, Some, None, length, slice_get}
use Rattle.nbd_export.specs.{declared.start.{Start.{Start, TheVariants.{Unknown, Zeroes, Image, Contents}}, HeldPart.HeldPart}, Extents.{byte_of, size_of}}
use Rattle.nbd_export.specs.declared.start.HeldPart.TheVariants as part

-- the byte at an offset below the size, if it is known
abbrev pub start_byte : Start → ℕ → Option ℕ
start_byte Unknown x = None
start_byte Zeroes x = Some 0
start_byte (Image image) x = slice_get image.value.items x
start_byte (Contents contents) x = byte_of contents.value x

-- an image and contents have the export's size
abbrev pub FitsSize : ℕ → Start → Type 0
FitsSize size Unknown = Unit {0}
FitsSize size Zeroes = Unit {0}
FitsSize size (Image image) = length image.value.items ≡ size
FitsSize size (Contents contents) = size_of contents.value ≡ size

-- all of the export is one range
abbrev pub IsOneRange : Start → Type 0
IsOneRange (Contents contents) = ⊥
IsOneRange start = Unit {0}

-- the byte at x of a part that begins at an offset
abbrev pub part_byte : HeldPart → (offset x : ℕ) → Option ℕ
part_byte part.Unknown offset x = None
part_byte part.Zeroes offset x = Some 0
part_byte (part.Bytes bytes) offset x = slice_get bytes.now (x - offset)

-- bytes that are given are so many
abbrev pub HasBytes : HeldPart → ℕ → Type 0
HasBytes (part.Bytes bytes) n = length bytes.now ≡ n
HasBytes p n = Unit {0}
