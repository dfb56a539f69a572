-- The forms of payloads, from what they state to their bytes. Numbers are big-endian.
use Rattle.std.specs.Prelude.{◌≡◌, ◌≢◌, ℕ, ◌<◌, ◌*◌, ◌^◌, List, [], ◌∷◌, ◌++◌, Option, Some, None, All, length, Bool, true, false}
use Rattle.byteorder.specs.Endian.{big_bytes}
use Rattle.nbd_wire.specs.{declared.{chunks.TheConstants.{OFFSET_DATA, OFFSET_HOLE, ERROR, ERROR_OFFSET}, infos.TheConstants.{EXPORT, BLOCK_SIZE}, payloads.{Info.{Info, TheVariants.{Export, BlockSize, Other}}, Piece.{Piece, TheVariants.{Bytes, Hole}}, Failure.Failure}}, protocol.Contexts.{Context, Extent, Filter, Status}}

-- INFO: a type and what belongs to it; other types than EXPORT and BLOCK_SIZE have any (proto.md, "Option reply types")
unfoldable pub HasInfoForm : Info → List ℕ → Type 0
HasInfoForm (Export size flags) bytes =
    (size < 2 ^ 64) × (flags < 2 ^ 16) × (bytes ≡ big_bytes 2 EXPORT ++ big_bytes 8 size ++ big_bytes 2 flags)
HasInfoForm (BlockSize least preferred most) bytes =
    (least < 2 ^ 32) × (preferred < 2 ^ 32) × (most < 2 ^ 32)
    × (bytes ≡ big_bytes 2 BLOCK_SIZE ++ big_bytes 4 least ++ big_bytes 4 preferred ++ big_bytes 4 most)
HasInfoForm (Other kind) bytes =
    (kind < 2 ^ 16) × (kind ≢ EXPORT) × (kind ≢ BLOCK_SIZE) × ((rest : List ℕ) × (bytes ≡ big_bytes 2 kind ++ rest))

-- SERVER: a name after its length, and free text (proto.md, "Option reply types")
unfoldable pub HasListedForm : List ℕ → List ℕ → List ℕ → Type 0
HasListedForm name text bytes = (length name < 2 ^ 32) × (bytes ≡ big_bytes 4 (length name) ++ name ++ text)

-- INFO and GO data: a name after its length, and infos, two bytes each, after their count (proto.md, "Option types")
unfoldable pub HasGoForm : List ℕ → ℕ → List ℕ → Type 0
HasGoForm name count bytes =
    (length name < 2 ^ 32) × (count < 2 ^ 16)
    × ((asked : List ℕ) × (length asked ≡ 2 * count)
    × (bytes ≡ big_bytes 4 (length name) ++ name ++ big_bytes 2 count ++ asked))

-- texts, each after its length
abbrev pub with_lengths : List (List ℕ) → List ℕ
with_lengths [] = []
with_lengths (text ∷ texts) = big_bytes 4 (length text) ++ text ++ with_lengths texts

-- LIST_META_CONTEXT and SET_META_CONTEXT data: an export's name after its length, and the queries after their count,
-- each after its length (proto.md, "Option types", "Metadata querying")
unfoldable pub HasQueriesForm : List ℕ → ℕ → List ℕ → Type 0
HasQueriesForm name count bytes =
    (length name < 2 ^ 32) × (count < 2 ^ 32)
    × ((queries : List (List ℕ)) × (length queries ≡ count) × All (λ (query : List ℕ). length query < 2 ^ 32) queries
    × (bytes ≡ big_bytes 4 (length name) ++ name ++ big_bytes 4 count ++ with_lengths queries))

-- META_CONTEXT: an id, and a name to the end (proto.md, "Option reply types")
unfoldable pub HasContextForm : Context → List ℕ → Type 0
HasContextForm context bytes = (context.id < 2 ^ 32) × (bytes ≡ big_bytes 4 context.id ++ context.name)

-- OFFSET_DATA and OFFSET_HOLE: an offset, and at least one byte of data or of hole (proto.md, "Structured reply types")
unfoldable pub HasContentForm : ℕ → Piece → List ℕ → Type 0
HasContentForm kind (Bytes offset bytes) payload =
    (kind ≡ OFFSET_DATA) × (offset < 2 ^ 64) × (0 < length bytes) × (payload ≡ big_bytes 8 offset ++ bytes)
HasContentForm kind (Hole offset size) payload =
    (kind ≡ OFFSET_HOLE) × (offset < 2 ^ 64) × (0 < size) × (size < 2 ^ 32)
    × (payload ≡ big_bytes 8 offset ++ big_bytes 4 size)

-- what goes on after an error chunk's message: an offset where the type has one, and then any bytes (proto.md,
-- "Structured reply types")
abbrev pub GoesOn : ℕ → Option ℕ → List ℕ → Type 0
GoesOn kind None rest = kind ≡ ERROR
GoesOn kind (Some offset) rest = (kind ≡ ERROR_OFFSET) × (offset < 2 ^ 64)
    × ((more : List ℕ) × (rest ≡ big_bytes 8 offset ++ more))

-- ERROR and ERROR_OFFSET: an error, and a message after its length (proto.md, "Structured reply types")
unfoldable pub HasFailureForm : ℕ → Failure → List ℕ → Type 0
HasFailureForm kind failure bytes =
    (0 < failure.error) × (failure.error < 2 ^ 32)
    × ((message : List ℕ) × (rest : List ℕ) × (length message < 2 ^ 16) × GoesOn kind failure.offset rest
    × (bytes ≡ big_bytes 4 failure.error ++ big_bytes 2 (length message) ++ message ++ rest))

-- ids, one after the other
abbrev pub with_ids : List ℕ → List ℕ
with_ids [] = []
with_ids (id ∷ ids) = big_bytes 4 id ++ with_ids ids

-- the payload of a BLOCK_STATUS with PAYLOAD_LEN: a length, and ids (this project's choice, read from libnbd and qemu)
unfoldable pub HasFilterForm : Filter → List ℕ → Type 0
HasFilterForm filter bytes =
    (filter.length < 2 ^ 64) × All (λ (id : ℕ). id < 2 ^ 32) filter.ids
    × (bytes ≡ big_bytes 8 filter.length ++ with_ids filter.ids)

-- descriptors, one after the other: a length and flags of so many bytes each
abbrev pub with_extents : (width : ℕ) → List Extent → List ℕ
with_extents width [] = []
with_extents width (x ∷ extents) = big_bytes width x.length ++ big_bytes width x.flags ++ with_extents width extents

-- each speaks of at least one byte, and its numbers have so many bytes
abbrev pub AreExtents : (width : ℕ) → List Extent → Type 0
AreExtents width extents = All
    (λ (x : Extent). (0 < x.length) × (x.length < 256 ^ width) × (x.flags < 256 ^ width)) extents

-- BLOCK_STATUS: an id, and one or more descriptors, each of at least one byte (proto.md, "Structured reply types");
-- BLOCK_STATUS_EXT: an id, the count of the descriptors, and these (this project's choice)
unfoldable pub HasStatusForm : (extended : Bool) → Status → List ℕ → Type 0
HasStatusForm false status bytes =
    (status.id < 2 ^ 32) × (status.extents ≢ []) × AreExtents 4 status.extents
    × (bytes ≡ big_bytes 4 status.id ++ with_extents 4 status.extents)
HasStatusForm true status bytes =
    (status.id < 2 ^ 32) × (status.extents ≢ []) × AreExtents 8 status.extents × (length status.extents < 2 ^ 32)
    × (bytes ≡ big_bytes 4 status.id ++ big_bytes 4 (length status.extents) ++ with_extents 8 status.extents)
