-- How bytes that are left compare with an image, and the line that says so.
use Rattle.std.specs.{Prelude.{◌≡◌, ◌++◌, ◌↔◌, ℕ, List, [], Bool, true, false, Option, Some, None, codes, count_by, is_none, is_some, length, slice_get, unwrap_or}, Fmt.decimal, Io.KnownBytes.Appends}
use Rattle.nbd_wire.specs.declared.commands.TheConstants as commands
use Rattle.nbd_explain.specs.Common.{Effect, IsWrongIn, IsFirst, Held, held_from}

-- byte x is known, and the image has not this byte there
abbrev pub DiffersAt : Held → (image : List ℕ) → ℕ → Type 0
DiffersAt bytes image x = (b : ℕ) × (unwrap_or (slice_get bytes x) None ≡ Some b) × (slice_get image x ≡ Some b → ⊥)

-- the line of an image that agrees: how many bytes are known, and how many are not
abbrev pub agreeing_line : (known_count unknown_count : ℕ) → List ℕ
agreeing_line known_count unknown_count =
    codes "agrees known " ++ (decimal known_count ++ (codes " unknown " ++ (decimal unknown_count ++ codes "\n")))

-- the line of an image that has another size
abbrev pub sizes_line : (image size : ℕ) → List ℕ
sizes_line image size = codes "no against " ++ (decimal image ++ (codes " size " ++ (decimal size ++ codes "\n")))

-- the line of an image that differs at this offset
abbrev pub differing_line : ℕ → List ℕ
differing_line offset = codes "no against offset " ++ (decimal offset ++ codes "\n")

-- how bytes compare with an image: the line, and whether they agree
pub data Compares (bytes : Held) (image : List ℕ) : List ℕ → Bool → Type 0 where
  -- the image has the same size, and each known byte
  agree : length image ≡ length bytes → ((x : ℕ) → DiffersAt bytes image x → ⊥)
      → Compares bytes image (agreeing_line (count_by is_some bytes) (count_by is_none bytes)) true
  -- the image has another size
  sizes : (length image ≡ length bytes → ⊥) → Compares bytes image (sizes_line (length image) (length bytes)) false
  -- the image has the same size; this is the least offset of a known byte that it has not
  differ : (x : ℕ) → length image ≡ length bytes → IsFirst (DiffersAt bytes image) x
      → Compares bytes image (differing_line x) false

-- the line of how they compare was written, and whether they agree is the answer
abbrev pub WritesCompared : Held → (image : List ℕ) → (old new : Option (List ℕ)) → Bool → Type 0
WritesCompared bytes image old new answer = (line : List ℕ) × Compares bytes image line answer × Appends old new line

-- a READ of as many bytes as an image has, from the beginning of the export on, that got these
abbrev pub read_of : (image : List ℕ) → Effect
read_of image = record {
  command = commands.READ;
  offset = 0;
  length = length image;
  payload = [];
  succeeded = true;
  read = slice_get image;
}

-- an image of the export's size has each byte that is known exactly where such a READ, served where the export holds
-- these bytes, serves no wrong byte
abbrev pub ImagesCompareAsReads : Type 0
ImagesCompareAsReads = (bytes : ℕ → Option ℕ) (size : ℕ) (image : List ℕ) → length image ≡ size
    → ((x : ℕ) → DiffersAt (held_from bytes 0 size) image x → ⊥)
    ↔ ((x : ℕ) → IsWrongIn None (read_of image) bytes x → ⊥)
