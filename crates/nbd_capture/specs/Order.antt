-- Order texts. The format is this project's choice.
use Rattle.std.specs.{Prelude.{◌≡◌, ℕ, ◌<◌, ◌^◌, List, [], ◌∷◌, ◌++◌, Option, Some, None, slice_index, length}, Char.IsAsciiDigit, Fmt.decimal, Str.Parse.{IsNumeral, digits_value}}
use Rattle.nbd_wire.specs.{declared.entry.{Entry.Entry, Part.Part}, Prelude.whole}
use Rattle.nbd_capture.specs.{Capture.space, Lines.{IsText, IsFirstBadLine}}

-- a first byte from `0` to `9`, and `0` only where it is the only one
abbrev pub BeginsPlainly : List ℕ → Type 0
BeginsPlainly digits = IsAsciiDigit (slice_index digits 0) × (slice_index digits 0 ≡ 48 → length digits ≡ 1)

-- the digits of a number: decimal digits and nothing else, no `0` before others, of a number below 2^64
abbrev pub IsNumber : List ℕ → ℕ → Type 0
IsNumber digits n = IsNumeral 10 digits × BeginsPlainly digits × (digits_value 10 digits < 2 ^ 64)
    × (n ≡ digits_value 10 digits)

-- an offset and a length, with one space between them
abbrev pub IsPart : List ℕ → Part → Type 0
IsPart text p = (offset : List ℕ) × (len : List ℕ) × (text ≡ offset ++ space ∷ len) × IsNumber offset p.offset
    × IsNumber len p.length

-- the forms of a line: a request's number; or the number, a space and a part
pub data IsOrderLine : List ℕ → List Entry → Type 0 where
  atomically : (digits : List ℕ) (k : ℕ) → IsNumber digits k → IsOrderLine digits (whole k ∷ [])
  of_part : (digits text : List ℕ) (k : ℕ) (p : Part)
      → IsNumber digits k → IsPart text p → IsOrderLine (digits ++ space ∷ text)
      (record { request = k; part = Some p } ∷ [])

-- an order text and its entries, one a line
abbrev pub IsOrderText : List ℕ → List Entry → Type 0
IsOrderText text entries = IsText IsOrderLine text entries

-- line n, from 1, is the first bad line of the text
abbrev pub IsFirstBadOrderLine : List ℕ → ℕ → Type 0
IsFirstBadOrderLine text n = IsFirstBadLine IsOrderLine text n

-- a part as it is printed after its request's number
abbrev pub part_text : Option Part → List ℕ
part_text None = []
part_text (Some p) = space ∷ decimal p.offset ++ space ∷ decimal p.length

-- an entry as it is printed
abbrev pub entry_text : Entry → List ℕ
entry_text e = decimal e.request ++ part_text e.part

-- the part's numbers fit 64 bits
abbrev pub PartFits : Option Part → Type 0
PartFits None = Unit {0}
PartFits (Some p) = (p.offset < 2 ^ 64) × (p.length < 2 ^ 64)

-- the entry's numbers do
abbrev pub EntryFits : Entry → Type 0
EntryFits e = (e.request < 2 ^ 64) × PartFits e.part
