-- A start of given bytes that is none of the export.
use Rattle.std.specs.Prelude.{ℕ, ◌≡◌, Option, Some, Result, Ok, Err, length}
use Rattle.nbd_wire.specs.{Prelude.{FitsImage, Start, Held, start_byte, Exporting}, declared.verdict.Verdict.Verdict}
use Rattle.nbd_export.specs.{declared.extents.Extents.Extents, Extents.{byte_of, size_of}, Ranges.AreSameBelow}
use Rattle.nbd_wire.specs.declared.verdict.Verdict.TheVariants as verdict

-- the start has this many bytes, as an image or a contents text, and the export has this other size
abbrev pub IsOtherSize : Option Exporting → Start → (image size : ℕ) → Type 0
IsOtherSize (Some export) (Held bytes) image size =
    (image ≡ length bytes) × (size ≡ export.size) × (length bytes ≡ export.size → ⊥)
IsOtherSize _ _ image size = ⊥

-- of an export of this size: contents with the bytes of the start; or Image where the start has another size
abbrev pub IsBegun : (size : ℕ) → Start → Result Extents Verdict → Type 0
IsBegun size initial (Ok contents) =
    (size_of contents ≡ size) × AreSameBelow size (byte_of contents) (start_byte initial)
    × ((export : Exporting) → export.size ≡ size → FitsImage (Some export) initial)
IsBegun size initial (Err v) =
    (image : ℕ) × (v ≡ verdict.Image image size)
    × ((export : Exporting) → export.size ≡ size → IsOtherSize (Some export) initial image size)
