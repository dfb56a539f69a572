-- Message lines: a kind's words, its numbers and its payload. The format is this project's choice.
use Rattle.std.specs.{Prelude.{◌≡◌, ℕ, ◌≤◌, Bool, true, false, List, [], ◌∷◌, ◌++◌, codes}, Fmt.decimal}
use Rattle.hex.specs.Hex.{encode_lower}
use Rattle.nbd_wire.specs.declared.message.Message.{Message}
use Rattle.nbd_capture.specs.Capture.{AreDigits, space}
use Rattle.nbd_lines.specs.{declared.forms.Field.Field, Table.{payload_of, field_name, fields, has_payload, line_form, numbers, words}}

-- `=`
abbrev pub equals : ℕ
equals = 61

-- a number in its field: one space, the field's name, `=`, and the number in decimal digits without leading zeros
abbrev pub number_text : Field → ℕ → List ℕ
number_text f n = space ∷ (field_name f.name ++ equals ∷ decimal n)

-- the fields of these numbers, in order
abbrev pub numbers_text : List Field → List ℕ → List ℕ
numbers_text (f ∷ fs) (n ∷ ns) = number_text f n ++ numbers_text fs ns
numbers_text _ _ = []

-- one number for each field, and none above the field's greatest
abbrev pub AreWithin : List Field → List ℕ → Type 0
AreWithin [] [] = Unit {0}
AreWithin (f ∷ fs) (n ∷ ns) = (n ≤ f.most) × AreWithin fs ns
AreWithin _ _ = ⊥

-- what stands before a payload's digits
abbrev pub payload_words : List ℕ
payload_words = codes " payload="

-- what ends a line: a payload in hexadecimal digits of either case, two for each byte and possibly none, or nothing
pub data IsEnd : Bool → List ℕ → List ℕ → Type 0 where
  nothing : IsEnd false [] []
  payload : (digits bytes : List ℕ) → AreDigits digits bytes → IsEnd true bytes (payload_words ++ digits)

-- a line and the message for which it stands
pub record IsMessageLine (line : List ℕ) (m : Message) : Type 0 where
  pub end : List ℕ
  pub within : AreWithin (fields (line_form m)) (numbers m)
  pub is_end : IsEnd (has_payload (line_form m)) (payload_of m) end
  pub whole : line ≡ words (line_form m) ++ (numbers_text (fields (line_form m)) (numbers m) ++ end)

-- the end of a line as it is printed, in lower case
abbrev pub end_text : Bool → List ℕ → List ℕ
end_text true bytes = payload_words ++ encode_lower bytes
end_text false bytes = []

-- a message's line as it is printed
abbrev pub message_line : Message → List ℕ
message_line m = words (line_form m) ++ (numbers_text (fields (line_form m)) (numbers m)
    ++ end_text (has_payload (line_form m)) (payload_of m))
