-- The kind of each byte of an export, by where the ranges of one kind begin.
use Rattle.std.specs.{Prelude.{ℕ, ◌≡◌, ◌+◌, ◌==◌, ◌||◌, zero, suc, Option, Some, None, if◌then◌else◌, is_some}, Ordering.nat_cmp, BTreeMap.{BTreeMap, get}}
use Rattle.nbd_export.specs.declared.kind.Kind.{Kind}

-- the kind of the range that begins at an offset, where one does
abbrev pub kind_from : BTreeMap ℕ Kind → ℕ → Option Kind
kind_from starts x = get nat_cmp starts x

-- the first kind, or where there is none the second
abbrev pub first_of_two : Option Kind → Option Kind → Option Kind
first_of_two (Some kind) other = Some kind
first_of_two None other = other

-- the kind at an offset, by the kinds from each start: that of the last range that begins there or before
unfoldable pub kind_at : (ℕ → Option Kind) → ℕ → Option Kind
kind_at from zero = from zero
kind_at from (suc x) = first_of_two (from (suc x)) (kind_at from x)

-- the kind just before an offset, none before the first
unfoldable pub kind_before : (ℕ → Option Kind) → ℕ → Option Kind
kind_before from zero = None
kind_before from (suc x) = kind_at from x

-- a range that begins here has another kind than the one before it
abbrev pub IsApartAt : (ℕ → Option Kind) → ℕ → Type 0
IsApartAt from x = (kind : Kind) → from x ≡ Some kind → kind_before from x ≡ Some kind → ⊥

-- in how many ranges n bytes from an offset on lie, by the kinds from each start: the first byte's, and those that
-- begin behind it
unfoldable pub ranges_met : (ℕ → Option Kind) → (offset n : ℕ) → ℕ
ranges_met from offset zero = 0
ranges_met from offset (suc n) = ranges_met from offset n
    + (if (n == 0) || is_some (from (offset + n)) then 1 else 0)
