-- The bytes of a payload, as its owner keeps them.
use Rattle.std.specs.Prelude.{ℕ, List, drop, take}
use Rattle.nbd_wire.specs.declared.bytes.Kept.{Kept, TheVariants.{Short, Long}}
use Rattle.nbd_wire.specs.declared.bytes.Short as short

-- those of a short one
abbrev pub short_bytes : short.Short → List ℕ
short_bytes s = take s.len s.bytes

abbrev pub bytes_kept : Kept → List ℕ
bytes_kept (Short s) = short_bytes s
bytes_kept (Long count shared) = drop count shared.value.items
