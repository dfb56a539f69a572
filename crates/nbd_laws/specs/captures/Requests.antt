-- Captures of proper and improper requests.
use Rattle.std.specs.Prelude.{[], ◌∷◌, ◌++◌}
use Rattle.byteorder.specs.Endian.{big_bytes}
use Rattle.nbd_laws.specs.captures.Openings.{Chunks, ask, done, gives, opening, opening_bare, opening_flags, opening_read_only, read, simple, write}

-- requests with every flag that the export allows: FLUSH, WRITE, WRITE_ZEROES, READ, CACHE and TRIM
abbrev pub proper_requests : Chunks
proper_requests =
    opening_flags
    ++ ask 0x01 3 1 0 0 [] ∷ done 1 ∷ ask 0x01 1 2 0 1 (big_bytes 1 0xab) ∷ done 2
    ∷ ask 0x13 6 3 1 1 [] ∷ done 3 ∷ ask 0x05 0 4 0 1 [] ∷ gives 4 1 0xab
    ∷ ask 0x01 5 5 0 8 [] ∷ done 5 ∷ ask 0x01 4 6 7 1 [] ∷ done 6 ∷ []

-- a WRITE, a TRIM and a WRITE_ZEROES to a read-only export
abbrev pub changes_of_read_only : Chunks
changes_of_read_only =
    opening_read_only
    ++ write 1 0 1 0xab ∷ simple 1 1 0 0 ∷ ask 0 4 2 0 1 [] ∷ simple 1 2 0 0 ∷ ask 0 6 3 0 1 [] ∷ simple 1 3 0 0 ∷ []

-- a FLUSH, a TRIM, a WRITE_ZEROES and a WRITE with FUA to an export without their flags
abbrev pub requests_not_offered : Chunks
requests_not_offered =
    opening_bare
    ++ ask 0 3 1 0 0 [] ∷ simple 22 1 0 0 ∷ ask 0 4 2 0 1 [] ∷ simple 22 2 0 0
    ∷ ask 0 6 3 0 1 [] ∷ simple 22 3 0 0 ∷ ask 0x01 1 4 0 1 (big_bytes 1 0xab) ∷ simple 22 4 0 0 ∷ []

-- a READ with DF, a WRITE_ZEROES with FAST_ZERO, a READ with NO_HOLE, and a READ with an unknown flag
abbrev pub flags_not_allowed : Chunks
flags_not_allowed =
    opening
    ++ ask 0x04 0 1 0 1 [] ∷ simple 22 1 0 0 ∷ ask 0x10 6 2 0 1 [] ∷ simple 22 2 0 0
    ∷ ask 0x02 0 3 0 1 [] ∷ simple 22 3 0 0 ∷ ask 0x08 0 4 0 1 [] ∷ simple 22 4 0 0 ∷ []

-- a request of an unknown type, a FLUSH with an offset, a FLUSH with a length, and a WRITE past the end
abbrev pub odd_requests : Chunks
odd_requests =
    opening
    ++ ask 0 7 1 0 0 [] ∷ simple 22 1 0 0 ∷ ask 0 3 2 1 0 [] ∷ simple 22 2 0 0
    ∷ ask 0 3 3 0 1 [] ∷ simple 22 3 0 0 ∷ write 4 7 2 0xabcd ∷ simple 28 4 0 0 ∷ []

-- a READ after the end of the export, which fails
abbrev pub improper_read : Chunks
improper_read = opening ++ read 1 8 1 ∷ simple 22 1 0 0 ∷ []

-- a READ of no byte at the end of the export
abbrev pub read_of_nothing : Chunks
read_of_nothing = opening ++ read 1 8 0 ∷ done 1 ∷ []
