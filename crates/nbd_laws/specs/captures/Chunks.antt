-- Captures of structured replies.
use Rattle.std.specs.Prelude.{[], ◌∷◌, ◌++◌}
use Rattle.nbd_laws.specs.captures.Openings.{Chunks, chunk, opening_structured, read, write}

-- a READ whose second half comes before its first, a hole
abbrev pub structured_read : Chunks
structured_read =
    opening_structured
    ++ write 1 4 4 0x0a0b0c0d ∷ chunk 1 0 1 0 0 ∷ read 2 0 8 ∷ chunk 0 1 2 12 0x00000000000000040a0b0c0d
    ∷ chunk 0 2 2 12 0x000000000000000000000004 ∷ chunk 1 0 2 0 0 ∷ []

-- the same, with a byte that is not zero in the first half
abbrev pub later_piece : Chunks
later_piece =
    opening_structured
    ++ write 1 4 4 0x0a0b0c0d ∷ chunk 1 0 1 0 0 ∷ read 2 0 8 ∷ chunk 0 1 2 12 0x00000000000000040a0b0c0d
    ∷ chunk 0 1 2 12 0x000000000000000000000001 ∷ chunk 1 0 2 0 0 ∷ []

-- a READ of no byte, answered by a chunk without content
abbrev pub empty_read : Chunks
empty_read = opening_structured ++ read 1 0 0 ∷ chunk 1 0 1 0 0 ∷ []

-- a READ that an error chunk with an offset ends
abbrev pub failed_read : Chunks
failed_read = opening_structured ++ read 1 0 2 ∷ chunk 1 0x8002 1 14 0x0000000500000000000000000001 ∷ []

-- a READ of two bytes of which one came before the error
abbrev pub failed_content : Chunks
failed_content =
    opening_structured
    ++ read 1 0 2 ∷ chunk 0 1 1 9 0x0000000000000000ff ∷ chunk 1 0x8002 1 14 0x0000000500000000000000000001 ∷ []
