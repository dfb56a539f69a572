-- What a writer holds after a fault.
use Rattle.std.specs.{Prelude.{◌≡◌, ℕ, List, ◌++◌, Option}, Io.KnownBytes.Appends}

-- known bytes grew by a prefix of these bytes, possibly by none or by all
abbrev pub AppendsPrefix : Option (List ℕ) → Option (List ℕ) → List ℕ → Type 0
AppendsPrefix old new bytes = (prefix rest : List ℕ) × (bytes ≡ prefix ++ rest) × Appends old new prefix
