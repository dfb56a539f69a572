-- A capture: a list of bytes with their senders.
use Rattle.std.specs.{Prelude.{ℕ, ◌<◌, List, [], ◌∷◌, map}, List.flat_map}
use Rattle.nbd_wire.specs.declared.message.Side.{Side}

-- a byte on the wire with its sender (this project's choice: only the order of these counts)
pub record Pair : Type 0 where
  pub from : Side
  pub byte : ℕ

-- each byte is a byte
abbrev pub ArePairs : List Pair → Type 0
ArePairs [] = Unit {0}
ArePairs (p ∷ ps) = (p.byte < 256) × ArePairs ps

-- bytes of one sender
abbrev pub side_pairs : Side → List ℕ → List Pair
side_pairs s bytes = map (λ b. record { from = s; byte = b }) bytes

-- the flat capture: the bytes of all records with their senders, in order
abbrev pub flat : List (Side × List ℕ) → List Pair
flat chunks = flat_map (λ (chunk : Side × List ℕ). side_pairs chunk.0 chunk.1) chunks
