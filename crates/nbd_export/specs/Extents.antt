-- What contents by ranges show: their size, what is known of each byte, and how many ranges they have.
use Rattle.std.specs.{Prelude.{ℕ, Option}, BTreeMap.btree_map_len}
use Rattle.nbd_export.specs.{declared.extents.Extents.Extents, Kinds.{kind_from, ranges_met}, Pages.stored_byte, RangeKinds.{byte_by_kind, kind_of}, Ranges.{AreSameBelow, overlay}}

-- the byte at an offset below the size, if it is known
unfoldable pub byte_of : Extents → ℕ → Option ℕ
byte_of extents x = byte_by_kind (kind_of extents.kinds x) (stored_byte extents.pages x)

-- how many bytes the export has
abbrev pub size_of : Extents → ℕ
size_of extents = extents.kinds.size

-- how many ranges there are; no two neighbours are of one kind
abbrev pub range_count : Extents → ℕ
range_count extents = btree_map_len extents.kinds.starts

-- in how many of the ranges these bytes lie
abbrev pub ranges_met_by : Extents → (offset len : ℕ) → ℕ
ranges_met_by extents offset len = ranges_met (kind_from extents.kinds.starts) offset len

-- below the size a range has come to these bytes, and the others are as they were
abbrev pub Becomes : (old new : Extents) (offset len : ℕ) → (ℕ → Option ℕ) → Type 0
Becomes old new offset len bytes = AreSameBelow (size_of old) (byte_of new) (overlay offset len bytes (byte_of old))
