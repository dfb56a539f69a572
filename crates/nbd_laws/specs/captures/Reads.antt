-- Captures of reads and writes.
use Rattle.std.specs.Prelude.{[], ◌∷◌, ◌++◌}
use Rattle.nbd_laws.specs.captures.Openings.{Chunks, ask, client, done, gives, opening, read, simple, write}

-- a READ of four zeroes
abbrev pub first_run : Chunks
first_run = opening ++ read 1 0 4 ∷ gives 1 4 0 ∷ []

-- a WRITE, and a READ of what it wrote and of zeroes after it
abbrev pub write_and_read : Chunks
write_and_read = opening ++ write 1 0 2 0xabcd ∷ done 1 ∷ read 2 0 4 ∷ gives 2 4 0xabcd0000 ∷ []

-- the same, with another second byte
abbrev pub write_and_misread : Chunks
write_and_misread = opening ++ write 1 0 2 0xabcd ∷ done 1 ∷ read 2 0 4 ∷ gives 2 4 0xabce0000 ∷ []

-- a READ that is answered before the WRITE whose bytes it gives
abbrev pub read_before_reply : Chunks
read_before_reply = opening ++ write 1 0 2 0xabcd ∷ read 2 0 2 ∷ gives 2 2 0xabcd ∷ done 1 ∷ []

-- a READ of other bytes than those of a WRITE that then fails
abbrev pub failed_write : Chunks
failed_write = opening ++ write 1 0 2 0xabcd ∷ read 2 0 2 ∷ gives 2 2 0xeeff ∷ simple 5 1 0 0 ∷ []

-- the same, and the WRITE then succeeds
abbrev pub ignored_write : Chunks
ignored_write = opening ++ write 1 0 2 0xabcd ∷ read 2 0 2 ∷ gives 2 2 0xeeff ∷ done 1 ∷ []

-- two WRITEs of one byte, and a READ of the second
abbrev pub overwritten : Chunks
overwritten = opening ++ write 1 0 1 0xaa ∷ done 1 ∷ write 2 0 1 0xbb ∷ done 2 ∷ read 3 0 1 ∷ gives 3 1 0xbb ∷ []

-- a READ of a zero, and a WRITE of another byte after it
abbrev pub read_first : Chunks
read_first = opening ++ read 1 0 1 ∷ gives 1 1 0 ∷ write 2 0 1 0xab ∷ done 2 ∷ []

-- two READs, the second sent after the reply to the first
abbrev pub two_reads : Chunks
two_reads = opening ++ read 1 0 1 ∷ gives 1 1 0 ∷ read 2 0 1 ∷ gives 2 1 0 ∷ []

-- a READ of a byte that is not zero
abbrev pub odd_byte : Chunks
odd_byte = opening ++ read 1 0 1 ∷ gives 1 1 0xff ∷ []

-- a WRITE that is never answered, and a READ of another byte than its own
abbrev pub pending_write : Chunks
pending_write = opening ++ write 1 0 1 0xab ∷ read 2 0 1 ∷ gives 2 1 0xff ∷ []

-- a READ of a trimmed range
abbrev pub trimmed_read : Chunks
trimmed_read = opening ++ ask 0 4 1 0 8 [] ∷ done 1 ∷ read 2 0 8 ∷ gives 2 8 0x0102030405060708 ∷ []

-- a READ of the same bytes from a zeroed range
abbrev pub zeroed_read : Chunks
zeroed_read = opening ++ ask 0 6 1 0 8 [] ∷ done 1 ∷ read 2 0 8 ∷ gives 2 8 0x0102030405060708 ∷ []

-- a READ, and a WRITE with its cookie whose last byte comes after the reply to the READ
abbrev pub shared_cookie : Chunks
shared_cookie = opening ++ read 1 0 1 ∷ ask 0 1 1 4 1 [] ∷ gives 1 1 0 ∷ client 1 0xab ∷ done 1 ∷ []

-- a WRITE, a READ, a DISC, and the replies after it
abbrev pub disconnection : Chunks
disconnection = opening ++ write 1 0 1 0xab ∷ read 2 4 1 ∷ ask 0 2 9 0 0 [] ∷ gives 2 1 0 ∷ done 1 ∷ []

-- a READ that gives the first byte of a WRITE under way, and a zero
abbrev pub half_written : Chunks
half_written = opening ++ write 1 0 2 0xabcd ∷ read 2 0 2 ∷ gives 2 2 0xab00 ∷ done 1 ∷ []

-- a READ that gives a zero, and the second byte of a WRITE under way
abbrev pub half_read : Chunks
half_read = opening ++ write 1 0 2 0xabcd ∷ read 2 0 2 ∷ gives 2 2 0x00cd ∷ done 1 ∷ []

-- a WRITE of four bytes of which two lie in the export, and which fails
abbrev pub improper_write : Chunks
improper_write = opening ++ write 1 6 4 0xaabbccdd ∷ simple 22 1 0 0 ∷ []
