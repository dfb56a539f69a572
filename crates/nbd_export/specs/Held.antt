-- What an export holds, as a list of its bytes.
use Rattle.std.specs.{Prelude.{ℕ, zero, suc, ◌+◌, ◌<◌, IfSome, List, [], ◌∷◌, Option}, List.AllByRecursion}
use Rattle.nbd_export.specs.{declared.extents.Extents.Extents, Extents.{byte_of, size_of}}

-- what an export holds: each of its bytes in order, None where it is unknown
abbrev pub Held : Type 0
Held = List (Option ℕ)

-- each byte that is known is below 256
abbrev pub AreHeld : Held → Type 0
AreHeld bytes = AllByRecursion (λ o. IfSome o (λ b. b < 256)) bytes

-- n bytes from an offset on, of bytes that stand by their offsets
unfoldable pub held_from : (ℕ → Option ℕ) → (offset n : ℕ) → Held
held_from byte offset zero = []
held_from byte offset (suc n) = byte offset ∷ held_from byte (offset + 1) n

-- what the export with these contents holds
abbrev pub held : Extents → Held
held extents = held_from (byte_of extents) 0 (size_of extents)
