-- Flags, named by their masks (proto.md, "Flag fields", "Transmission flags", "Command flags").
use Rattle.std.specs.Prelude.{ℕ, Bool, not, ◌==◌, bit_and}

-- a flag, named by its mask, is set
unfoldable pub has : ℕ → ℕ → Bool
has flags mask = not (bit_and flags mask == 0)

-- no flag is set but those of the mask
unfoldable pub has_only : ℕ → ℕ → Bool
has_only flags mask = bit_and flags mask == flags
