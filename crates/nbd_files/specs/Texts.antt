-- What is kept of an input's bytes.
use Rattle.std.specs.Prelude.{ℕ, List, ◌≡◌, ◌<◌, length}
use Rattle.nbd_files.specs.declared.input.Text.{Text, TheVariants.{Longer, Whole}}

-- the bytes; or where there are more than there is room for, how many
abbrev pub IsText : (room : ℕ) → Text → List ℕ → Type 0
IsText room (Whole text) bytes = text.items ≡ bytes
IsText room (Longer n) bytes = (n ≡ length bytes) × (room < n)
