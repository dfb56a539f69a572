-- Capture texts. The format is this project's choice.
use Rattle.std.specs.{Prelude.{◌≡◌, ℕ, ◌+◌, ◌*◌, ◌<◌, ◌⊎◌, List, [], ◌∷◌, ◌++◌, map, slice_index, Vec}, declared.alloc.Global.Global}
use Rattle.hex.specs.Hex.{lower_digits, upper_digits, encode_lower}
use Rattle.nbd_wire.specs.declared.message.Side.{Side, TheVariants.{Client, Server}}
use Rattle.nbd_capture.specs.Lines.{line_feed, IsText, IsFirstBadLine}

-- bytes that one side sent, recorded together
pub record Chunk : Type 0 where
  pub side : Side
  pub bytes : List ℕ

-- a chunk of the program, without where its bytes lie in memory
abbrev pub chunk_of : Side × Vec ℕ Global → Chunk
chunk_of c = record { side = c.0; bytes = c.1.items }

abbrev pub chunks_of : List (Side × Vec ℕ Global) → List Chunk
chunks_of chunks = map chunk_of chunks

-- `C` for the client, `S` for the server
abbrev pub letter : Side → ℕ
letter Client = 67
letter Server = 83

abbrev pub space : ℕ
space = 32

-- `#`
abbrev pub hash : ℕ
hash = 35

-- one of `0123456789abcdef` or of `0123456789ABCDEF`, and its place there
abbrev pub IsDigit : ℕ → ℕ → Type 0
IsDigit digit v = (v < 16) × ((digit ≡ slice_index lower_digits v) ⊎ (digit ≡ slice_index upper_digits v))

-- two digits for each byte, the high half first
pub data AreDigits : List ℕ → List ℕ → Type 0 where
  none : AreDigits [] []
  byte : (first second high low : ℕ) (digits bytes : List ℕ)
      → IsDigit first high → IsDigit second low → AreDigits digits bytes
      → AreDigits (first ∷ second ∷ digits) ((high * 16 + low) ∷ bytes)

-- the forms of a line: a side's letter, one space and the digits of a chunk's bytes, possibly none; nothing; a `#`, and
-- anything after it
pub data IsCaptureLine : List ℕ → List Chunk → Type 0 where
  chunk : (side : Side) (digits bytes : List ℕ)
      → AreDigits digits bytes → IsCaptureLine (letter side ∷ space ∷ digits)
      (record { side = side; bytes = bytes } ∷ [])
  blank : IsCaptureLine [] []
  comment : (anything : List ℕ) → IsCaptureLine (hash ∷ anything) []

-- a capture text and its chunks
abbrev pub IsCaptureText : List ℕ → List Chunk → Type 0
IsCaptureText text chunks = IsText IsCaptureLine text chunks

-- line n, from 1, is the first bad line of the text
abbrev pub IsFirstBadCaptureLine : List ℕ → ℕ → Type 0
IsFirstBadCaptureLine text n = IsFirstBadLine IsCaptureLine text n

-- the chunk line of these bytes, in lower case digits, and its LF
abbrev pub chunk_line : Side → List ℕ → List ℕ
chunk_line side bytes = letter side ∷ space ∷ (encode_lower bytes ++ line_feed ∷ [])
