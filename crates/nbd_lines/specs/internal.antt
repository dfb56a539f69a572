-- The parts of a line, and the printing of contents.
use Rattle.std.specs.{Prelude.{◌≡◌, ℕ, List, ◌++◌, ◌≢◌, ◌≤◌, [], ◌∷◌, Option, Some, None, ◌-◌, ◌<◌, IfSome}, List.AllByRecursion}
use Rattle.nbd_capture.specs.{Capture.space, Contents.{Piece, cut, joined, known, piece_line, unknown, zeroes}}
use Rattle.nbd_lines.specs.{declared.{forms.Field.Field, script.ScriptFault.{ScriptFault, TheVariants.{Line, Memory}}}, Line.{AreWithin, number_text, numbers_text}, Script.IsScriptLine}
use Rattle.nbd_wire.specs.declared.message.Message.{Message}
use Rattle.nbd_export.specs.{declared.{extents.Extents.Extents, kind.Kind.{Kind, TheVariants.{Unknown, Zeroes, Bytes}}}, Extents.{byte_of, size_of}, Held.held_from}

-- something, possibly nothing, was added at the end
pub record AddsPrefix (old new : List ℕ) : Type 0 where
  pub prefix : List ℕ
  pub whole : new ≡ old ++ prefix

-- no space is among these bytes
abbrev pub IsSpaceless : List ℕ → Type 0
IsSpaceless bytes = AllByRecursion (λ b. b ≢ space) bytes

-- what can stand after a word: nothing, or a space and anything after it
abbrev pub EndsWord : List ℕ → Type 0
EndsWord [] = Unit {0}
EndsWord (b ∷ bs) = b ≡ space

-- the text begins with this number in its field, and goes on so
pub record BeginsNumber (f : Field) (n : ℕ) (text behind : List ℕ) : Type 0 where
  pub within : n ≤ f.most
  pub whole : text ≡ number_text f n ++ behind
  pub ends : EndsWord behind

-- the number that was read is the one with which the text begins, in whichever way it is split
pub record ReadsNumber (f : Field) (n : ℕ) (text behind : List ℕ) : Type 0 where
  pub begins : BeginsNumber f n text behind
  pub only : (other : ℕ) (rest : List ℕ) → BeginsNumber f other text rest → (other ≡ n) × (rest ≡ behind)

-- the text begins with these numbers in their fields, and goes on so
pub record BeginsNumbers (fs : List Field) (ns : List ℕ) (text behind : List ℕ) : Type 0 where
  pub within : AreWithin fs ns
  pub whole : text ≡ numbers_text fs ns ++ behind

-- the numbers that were read are those with which the text begins, in whichever way it is split
pub record ReadsNumbers (fs : List Field) (ns : List ℕ) (text behind : List ℕ) : Type 0 where
  pub begins : BeginsNumbers fs ns text behind
  pub only : (others rest : List ℕ) → EndsWord rest → BeginsNumbers fs others text rest
      → (others ≡ ns) × (rest ≡ behind)

-- the message that a line gave, if any, as a list
abbrev pub said_by : Option Message → List Message
said_by None = []
said_by (Some m) = m ∷ []

-- what a fault says of one line, whose number this is
abbrev pub IsLineFault : List ℕ → ℕ → ScriptFault → Type 0
IsLineFault line number (Line n) = (n ≡ number) × ((said : List Message) → IsScriptLine line said → ⊥)
IsLineFault line number Memory = Unit {0}

-- the pieces from an offset on, where one begins, as they are printed
abbrev pub left : Extents → ℕ → List Piece
left contents at = joined (cut at (held_from (byte_of contents) at (size_of contents - at)))

-- what is known of bytes from an offset up to another is a byte
abbrev pub AreBytes : Extents → (from to : ℕ) → Type 0
AreBytes contents from to = (x : ℕ) → from ≤ x → x < to → IfSome (byte_of contents x) (λ b. b < 256)

-- a piece of this kind: so many bytes, or these
abbrev pub piece_of : Kind → ℕ → List ℕ → Piece
piece_of Unknown n bytes = unknown n
piece_of Zeroes n bytes = zeroes n
piece_of Bytes n bytes = known bytes

-- the line of so many bytes from an offset on; nothing where the kind is bytes
abbrev pub run_line : Kind → (offset n : ℕ) → List ℕ
run_line Unknown offset n = piece_line offset (unknown n)
run_line Zeroes offset n = piece_line offset (zeroes n)
run_line Bytes offset n = []
