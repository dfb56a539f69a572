-- Words of the private functions' contracts, which read a contents text. No public clause names them.
use Rattle.std.specs.Prelude.{◌≡◌, ◌+◌, ◌++◌, ◌≤◌, ℕ, List, MatchOption, Option, codes, length}
use Rattle.nbd_export.specs.{declared.extents.Extents.Extents, Extents.{byte_of, size_of}, Held.held_from}
use Rattle.nbd_capture.specs.{declared.contents_line.Word.{Word, TheVariants.{Zero, Unknown, Data}}, Contents.{AreContentsLines, IsValue, Piece, Told, nothing, part, told}, Reading.lines_ended}

-- so many lines of the text were read, which tell this, and this is the rest
pub record Seen (text rest : List ℕ) (number : ℕ) (so_far : Told) : Type 0 where
  pub good : List ℕ
  pub whole : text ≡ good ++ rest
  pub lines : AreContentsLines nothing good so_far
  pub count : number ≡ lines_ended good

-- the bytes below an offset are told
abbrev pub up_to : Extents → ℕ → Told
up_to contents at = part (size_of contents) (held_from (byte_of contents) 0 at)

-- a word, as it stands in a line
abbrev pub word_text : Word → List ℕ
word_text Zero = codes "zero"
word_text Unknown = codes "unknown"
word_text Data = codes "data"

-- the value is that of a piece of this shape, which was laid behind the bytes below an offset; or it is none that fits
abbrev pub IsLaid : {X : Type 0} (shape : X → Piece) (old new : Extents) (at : ℕ) (value : List ℕ) → Option ℕ → Type 0
IsLaid {X} shape old new at value to = MatchOption to
    ((x : X) → IsValue (shape x) value → at + length (told (shape x)) ≤ size_of old → ⊥)
    (λ end. (x : X) × IsValue (shape x) value × (end ≤ size_of old) × (end ≡ at + length (told (shape x)))
    × (held_from (byte_of new) 0 end ≡ held_from (byte_of old) 0 at ++ told (shape x)))
