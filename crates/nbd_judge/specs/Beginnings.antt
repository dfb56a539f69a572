-- What an export holds at first, and its size, as the definitions say it.
use Rattle.std.specs.Prelude.{ℕ, Option, Some, None}
use Rattle.nbd_wire.specs.Prelude.{Exporting}
use Rattle.nbd_wire.specs.protocol.Explains as definitions
use Rattle.nbd_export.specs.{declared.start.Start.{Start, TheVariants.{Unknown, Zeroes, Image, Contents}}, Held.held}

-- the size of an export in bytes; 0 where there is none
abbrev pub size_of : Option Exporting → ℕ
size_of (Some export) = export.size
size_of None = 0

-- the start that the program's value stands for
abbrev pub initial_of : Start → definitions.Start
initial_of Unknown = definitions.Unknown
initial_of Zeroes = definitions.Zeroes
initial_of (Image image) = definitions.image image.value.items
initial_of (Contents contents) = definitions.Held (held contents.value)
