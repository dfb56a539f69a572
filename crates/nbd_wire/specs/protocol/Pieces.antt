-- What a READ was answered, in pieces, and what they give at an offset (proto.md, "Structured reply types").
use Rattle.std.specs.Prelude.{ℕ, List, [], ◌∷◌, ◌≡◌, ◌+◌, ◌-◌, Bool, ◌&&◌, nat_le, nat_lt, if◌then◌else◌, Option, Some, None, length, IsTrue, slice_index, option_to_list}
use Rattle.nbd_wire.specs.{declared.{message.Message.{Message, TheVariants.{Simple, Chunk, ExtendedChunk}}, payloads.Piece.{Piece, TheVariants.{Bytes, Hole}}}, protocol.Payloads.content_of}

-- the bytes of a simple reply as a piece: none where it has none
abbrev pub simple_piece : ℕ → List ℕ → List Piece
simple_piece offset [] = []
simple_piece offset (b ∷ bytes) = Bytes offset (b ∷ bytes) ∷ []

-- what one reply message gives to a READ at this offset
unfoldable pub piece_of : ℕ → Message → List Piece
piece_of offset (Simple error cookie payload) = simple_piece offset payload
piece_of offset (Chunk flags kind cookie payload) = option_to_list (content_of kind payload)
piece_of offset (ExtendedChunk flags kind cookie at payload) = option_to_list (content_of kind payload)
piece_of offset _ = []

-- where a piece begins, in bytes from the start of the export
abbrev pub piece_offset : Piece → ℕ
piece_offset (Bytes offset bytes) = offset
piece_offset (Hole offset size) = offset

-- how many bytes a piece stands for
abbrev pub piece_size : Piece → ℕ
piece_size (Bytes offset bytes) = length bytes
piece_size (Hole offset size) = size

-- a piece's byte at an offset that it holds: a hole reads as zeroes (proto.md, "Structured reply types")
abbrev pub piece_byte : Piece → ℕ → ℕ
piece_byte (Bytes offset bytes) x = slice_index bytes (x - offset)
piece_byte (Hole offset size) x = 0

-- x lies in the range of this offset and length, over whole numbers: a range of length 0 holds no offset
abbrev pub is_in : ℕ → ℕ → ℕ → Bool
is_in offset len x = nat_le offset x && nat_lt x (offset + len)

-- the piece stands for the byte at x
abbrev pub holds : Piece → ℕ → Bool
holds piece x = is_in (piece_offset piece) (piece_size piece) x

-- the byte that the first of the pieces with x gives there, if one has x
abbrev pub byte_at : List Piece → ℕ → Option ℕ
byte_at [] x = None
byte_at (piece ∷ pieces) x = if holds piece x then Some (piece_byte piece x) else byte_at pieces x

-- no offset lies in this piece and in one of those
abbrev pub SharesNone : Piece → List Piece → Type 0
SharesNone piece pieces = (x : ℕ) → IsTrue (holds piece x) → byte_at pieces x ≡ None
