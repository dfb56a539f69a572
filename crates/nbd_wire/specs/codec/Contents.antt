-- What a reader's answer says of what it read, and a content chunk as a piece that its owner keeps.
use Rattle.std.specs.{Prelude.{◌≡◌, ◌↔◌, Option, Some}, Option.option_map}
use Rattle.nbd_wire.specs.declared.payloads.{Content.Content, Extent.Extent, Piece.Piece}
use Rattle.nbd_wire.specs.declared.payloads.Content.TheVariants as content
use Rattle.nbd_wire.specs.declared.payloads.Piece.TheVariants as piece
use Rattle.nbd_wire.specs.protocol.Contexts as contexts

-- the answer is a value exactly where the value has this form: so None exactly where no value has it
abbrev pub Reads : {A : Type 0} → Option A → (A → Type 0) → Type 0
Reads {A = A} answer Form = (value : A) → (answer ≡ Some value) ↔ Form value

-- the same of an answer that holds references, by what they point to
abbrev pub ReadsAs : {A B : Type 0} → (A → B) → Option A → (B → Type 0) → Type 0
ReadsAs seen answer Form = Reads (option_map seen answer) Form

-- the same offset and the same bytes or size
abbrev pub piece_of : Content → Piece
piece_of (content.Bytes offset bytes) = piece.Bytes offset bytes.now
piece_of (content.Hole offset size) = piece.Hole offset size

-- the same length and flags
abbrev pub extent_of : Extent → contexts.Extent
extent_of extent = record { length = extent.length; flags = extent.flags }
