-- What it means that an order of service explains a capture.
use Rattle.std.specs.Prelude.{ℕ, List, ◌≡◌, Option, Some, None, length, map, slice_get, unwrap_or}
use Rattle.nbd_wire.specs.{declared.{entry.Entry.Entry, profile.Profile.Profile}, protocol.{ExportBytes.{IsWrong, effects}, Marks.{Item, pairs, service_order}, Captures.Pair, Reports.{Report, report}, Operations.Exporting, Rules.IsRunOf}}

-- what the export held at first: unknown bytes, zeroes, or each of its bytes in order, None where it is unknown
pub data Start : Type 0 where
  Unknown : Start
  Zeroes : Start
  Held : (bytes : List (Option ℕ)) → Start

-- the bytes of an image, which are all known
abbrev pub image : List ℕ → Start
image bytes = Held (map Some bytes)

-- the byte at x of the start, if it is known
abbrev pub start_byte : Start → ℕ → Option ℕ
start_byte Unknown x = None
start_byte Zeroes x = Some 0
start_byte (Held bytes) x = unwrap_or (slice_get bytes x) None

-- bytes that are given have the size of the export; nothing is asked where there is no export or no bytes are given
abbrev pub FitsImage : Option Exporting → Start → Type 0
FitsImage (Some export) (Held bytes) = length bytes ≡ export.size
FitsImage _ _ = Unit {0}

-- no entry of the order serves a wrong byte
abbrev pub HasNoWrongByte : Report → List Entry → Start → Type 0
HasNoWrongByte r order initial = (i x : ℕ) → IsWrong (effects r) order (start_byte initial) i x → ⊥

-- some run of the profile has these bytes and is served in this order, a start of given bytes has the export's size,
-- and no byte of a READ and no zero of a status that is served is wrong (this project's choice)
pub record IsExplainedOf (profile : Profile) (capture : List Pair) (order : List Entry)
    (initial : Start) : Type 0 where
  pub items : List Item
  pub is_run : IsRunOf profile items
  pub has_pairs : pairs items ≡ capture
  pub has_order : service_order items ≡ order
  pub fits_image : FitsImage (report items).export initial
  pub reads : HasNoWrongByte (report items) order initial
