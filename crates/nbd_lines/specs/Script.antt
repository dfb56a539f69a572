-- Scripts: what `make` reads and writes, and what `show` writes. The formats are this project's choice.
use Rattle.std.specs.Prelude.{ℕ, List, [], ◌∷◌, ◌++◌, codes, flat_map}
use Rattle.nbd_wire.specs.{declared.message.Message.Message, Prelude.{enc, side}, codec.Fits.FitsItsHead}
use Rattle.nbd_capture.specs.{Capture.{Chunk, chunk_line, hash}, Lines.{line_feed, IsText, IsFirstBadLine}}
use Rattle.nbd_lines.specs.Line.{IsMessageLine, message_line}

-- the forms of a line: a message that fits its head; nothing; a `#`, and anything after it; `ok`
pub data IsScriptLine : List ℕ → List Message → Type 0 where
  message : (line : List ℕ) (m : Message) → IsMessageLine line m → FitsItsHead m → IsScriptLine line (m ∷ [])
  blank : IsScriptLine [] []
  comment : (anything : List ℕ) → IsScriptLine (hash ∷ anything) []
  ok : IsScriptLine (codes "ok") []

-- a script and its messages
abbrev pub IsScript : List ℕ → List Message → Type 0
IsScript text messages = IsText IsScriptLine text messages

-- line n, from 1, is the first bad line of the text
abbrev pub IsFirstBadScriptLine : List ℕ → ℕ → Type 0
IsFirstBadScriptLine text n = IsFirstBadLine IsScriptLine text n

-- the chunk line of a message: its own side, and all of its bytes
abbrev pub made_line : Message → List ℕ
made_line m = chunk_line (side m) (enc m)

-- the chunk lines of these messages, in order
abbrev pub chunk_lines : List Message → List ℕ
chunk_lines messages = flat_map made_line messages

-- the chunk of a message
abbrev pub made_chunk : Message → Chunk
made_chunk m = record { side = side m; bytes = enc m }

-- a message's line and its LF
abbrev pub shown_line : Message → List ℕ
shown_line m = message_line m ++ line_feed ∷ []

-- the message lines of these messages, in order
abbrev pub message_lines : List Message → List ℕ
message_lines messages = flat_map shown_line messages
