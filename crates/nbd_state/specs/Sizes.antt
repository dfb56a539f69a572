-- What an index of spans holds.
use Rattle.std.specs.Prelude.{ℕ, Option}
use Rattle.nbd_state.specs.{declared.index.SpanIndex.SpanIndex, Indexes.size_from}

-- the size of the span of an index that begins at an offset, where one does
abbrev pub sizes_of : SpanIndex → ℕ → Option ℕ
sizes_of index = size_from index.sizes
