-- How bytes compare with an image, step by step, on the way to the line of it.
use Rattle.std.specs.Prelude.{◌≡◌, ℕ, List, Bool, true, false, Option, count_by, is_none, is_some, length}
use Rattle.nbd_explain.specs.{Common.{IsFirst, Extents, byte_of, Held, DiffersIn, IsLeast, bytes_from}, declared.comparing.Compared.{Compared, TheVariants.{Agree, Differ, Sizes}}, Compared.{DiffersAt, agreeing_line, differing_line, sizes_line}}

-- the least offset at which the first bytes of an image are none of those that are known
abbrev pub IsLeastOther : Extents → List ℕ → Option ℕ → Type 0
IsLeastOther contents bytes first = IsLeast (DiffersIn (byte_of contents) 0 (length bytes) (bytes_from 0 bytes)) first

-- this is how bytes compare with an image
abbrev pub IsComparison : Held → (image : List ℕ) → Compared → Type 0
IsComparison bytes image (Agree known_count unknown_count) =
    (length image ≡ length bytes) × ((x : ℕ) → DiffersAt bytes image x → ⊥)
    × (known_count ≡ count_by is_some bytes) × (unknown_count ≡ count_by is_none bytes)
IsComparison bytes image (Sizes of_image of_bytes) =
    (length image ≡ length bytes → ⊥) × (of_image ≡ length image) × (of_bytes ≡ length bytes)
IsComparison bytes image (Differ offset) =
    (length image ≡ length bytes) × IsFirst (DiffersAt bytes image) offset

-- the line of it
abbrev pub compared_line : Compared → List ℕ
compared_line (Agree known_count unknown_count) = agreeing_line known_count unknown_count
compared_line (Sizes image size) = sizes_line image size
compared_line (Differ offset) = differing_line offset

-- whether they agree
abbrev pub is_agreement : Compared → Bool
is_agreement (Agree known_count unknown_count) = true
is_agreement compared = false
