-- Contents texts: what an export holds, as lines that are read and printed. The format is this project's choice.
use Rattle.std.specs.{Prelude.{◌≡◌, ℕ, ◌+◌, ◌<◌, ◌≤◌, ◌^◌, ◌%◌, ◌==◌, Bool, true, false, if◌then◌else◌, List, [], ◌∷◌, ◌++◌, Some, None, codes, length, map, replicate}, Fmt.decimal}
use Rattle.hex.specs.Hex.{encode_lower}
use Rattle.nbd_export.specs.Held.{Held}
use Rattle.nbd_capture.specs.{Capture.{AreDigits, hash, space}, Lines.{IsUnbroken, line_feed}, Order.{IsNumber, IsFirstBadOrderLine}, Reading.lines_ended, declared.{contents.ContentsFault.ContentsFault, order.OrderTextFault.OrderTextFault}}
use Rattle.nbd_capture.specs.declared.contents.ContentsFault.TheVariants as contents_faults
use Rattle.nbd_capture.specs.declared.order.OrderTextFault.TheVariants as order_faults

-- what one line tells of the next bytes: so many are unknown, so many are zeroes, or they are these
pub data Piece : Type 0 where
  unknown : ℕ → Piece
  zeroes : ℕ → Piece
  known : List ℕ → Piece

-- the bytes of a piece
abbrev pub told : Piece → Held
told (unknown n) = replicate n None
told (zeroes n) = replicate n (Some 0)
told (known bytes) = map Some bytes

-- the first word of a piece's line
abbrev pub word : Piece → List ℕ
word (unknown n) = codes "unknown"
word (zeroes n) = codes "zero"
word (known bytes) = codes "data"

-- ---- reading

-- the last word of a piece's line: a number of bytes, or the bytes, in digits of either case; one byte or more
abbrev pub IsValue : Piece → List ℕ → Type 0
IsValue (unknown n) digits = IsNumber digits n × (0 < n)
IsValue (zeroes n) digits = IsNumber digits n × (0 < n)
IsValue (known bytes) digits = AreDigits digits bytes × (0 < length bytes)

-- what the lines so far tell: nothing, or the size of the export and its first bytes
pub data Told : Type 0 where
  nothing : Told
  part : (size : ℕ) → Held → Told

-- what the lines before a line tell, the line without its LF, and what they tell with it: nothing more, where it is
-- empty or begins with `#`; the size; or a piece that begins where the bytes end, and ends at the size or before it
pub data IsContentsLine : Told → List ℕ → Told → Type 0 where
  blank : (before : Told) → IsContentsLine before [] before
  comment : (before : Told) (anything : List ℕ) → IsContentsLine before (hash ∷ anything) before
  size : (digits : List ℕ) (n : ℕ) → IsNumber digits n → n < 2 ^ 63
      → IsContentsLine nothing (codes "size" ++ space ∷ digits) (part n [])
  piece : (n : ℕ) (bytes : Held) (p : Piece) (offset value : List ℕ)
      → IsNumber offset (length bytes) → IsValue p value → length (bytes ++ told p) ≤ n
      → IsContentsLine (part n bytes) (word p ++ space ∷ (offset ++ space ∷ value)) (part n (bytes ++ told p))

-- what the lines before some lines tell, these lines, each with its LF, and what they tell with these
pub data AreContentsLines : Told → List ℕ → Told → Type 0 where
  none : (before : Told) → AreContentsLines before [] before
  line : (before : Told) (bytes : List ℕ) (with_it : Told) (rest : List ℕ) (after : Told)
      → IsUnbroken bytes → IsContentsLine before bytes with_it → AreContentsLines with_it rest after
      → AreContentsLines before (bytes ++ line_feed ∷ rest) after

-- a contents text, and what the export holds by it: as many bytes as its size says
abbrev pub IsContentsText : List ℕ → Held → Type 0
IsContentsText text bytes = AreContentsLines nothing text (part (length bytes) bytes)

-- line n, from 1, is the first bad line of the text: those before it are lines of a contents text, and it is no line
-- behind them, or has no LF, or is missing though they do not tell all
pub record IsFirstBadContentsLine (text : List ℕ) (n : ℕ) : Type 0 where
  pub good : List ℕ
  pub bad : List ℕ
  pub so_far : Told
  pub whole : text ≡ good ++ bad
  pub lines : AreContentsLines nothing good so_far
  pub number : n ≡ lines_ended good + 1
  pub ends : (bytes rest : List ℕ) (more : Told)
      → IsUnbroken bytes → bad ≡ bytes ++ line_feed ∷ rest → IsContentsLine so_far bytes more → ⊥
  pub lacks : (bytes : Held) → bad ≡ [] → so_far ≡ part (length bytes) bytes → ⊥

-- ---- printing

-- a known byte before pieces: a part of the first one, unless that is unknown or stands behind a cut
abbrev pub before_pieces : ℕ → (cut : Bool) → List Piece → List Piece
before_pieces byte false (known bytes ∷ pieces) = known (byte ∷ bytes) ∷ pieces
before_pieces byte _ pieces = known (byte ∷ []) ∷ pieces

-- bytes from an offset on, cut at multiples of 32 and where known meets unknown; unknown ones are pieces of one byte
unfoldable pub cut : ℕ → Held → List Piece
cut offset [] = []
cut offset (None ∷ bytes) = unknown 1 ∷ cut (offset + 1) bytes
cut offset (Some byte ∷ bytes) = before_pieces byte ((offset + 1) % 32 == 0) (cut (offset + 1) bytes)

-- each byte is 0
abbrev pub are_zeroes : List ℕ → Bool
are_zeroes [] = true
are_zeroes (byte ∷ bytes) = if byte == 0 then are_zeroes bytes else false

-- known bytes that are all 0, as zeroes
abbrev pub shown : Piece → Piece
shown (known bytes) = if are_zeroes bytes then zeroes (length bytes) else known bytes
shown p = p

-- a piece before others, as one with the first where both are unknown or both are zeroes
abbrev pub join : Piece → List Piece → List Piece
join (unknown m) (unknown n ∷ pieces) = unknown (m + n) ∷ pieces
join (zeroes m) (zeroes n ∷ pieces) = zeroes (m + n) ∷ pieces
join p pieces = p ∷ pieces

-- the pieces as they are printed: zeroes as such, and neighbours joined
abbrev pub joined : List Piece → List Piece
joined [] = []
joined (p ∷ pieces) = join (shown p) (joined pieces)

-- the last word of a piece's line as it is printed, in lower case
abbrev pub value_text : Piece → List ℕ
value_text (unknown n) = decimal n
value_text (zeroes n) = decimal n
value_text (known bytes) = encode_lower bytes

-- the line of a piece that begins at an offset, with its LF
abbrev pub piece_line : ℕ → Piece → List ℕ
piece_line offset p = word p ++ space ∷ (decimal offset ++ space ∷ (value_text p ++ line_feed ∷ []))

-- the lines of pieces from an offset on
abbrev pub piece_lines : ℕ → List Piece → List ℕ
piece_lines offset [] = []
piece_lines offset (p ∷ pieces) = piece_line offset p ++ piece_lines (offset + length (told p)) pieces

-- the line of the size, with its LF
abbrev pub size_line : ℕ → List ℕ
size_line n = codes "size" ++ space ∷ (decimal n ++ line_feed ∷ [])

-- what an export holds, as it is printed
abbrev pub printed : Held → List ℕ
printed bytes = size_line (length bytes) ++ piece_lines 0 (joined (cut 0 bytes))

-- of an order text: a line fault names the first bad line; out of memory says nothing of the text
abbrev pub IsOrderTextFault : List ℕ → OrderTextFault → Type 0
IsOrderTextFault text (order_faults.Line n) = IsFirstBadOrderLine text n
IsOrderTextFault text order_faults.Memory = Unit {0}

-- the same of a contents text
abbrev pub IsContentsFault : List ℕ → ContentsFault → Type 0
IsContentsFault text (contents_faults.Line n) = IsFirstBadContentsLine text n
IsContentsFault text contents_faults.Memory = Unit {0}
