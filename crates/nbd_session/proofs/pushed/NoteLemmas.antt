-- The stretches that the program keeps, as a contract has them, with so many more bytes of a side.
use Rattle.nbd_session.proofs.Common.{arith, ◌≡◌, ℕ, ◌+◌, ◌-◌, ◌≤◌, suc, List, slice_get-get_or, slice_get, [], ◌∷◌, ◌++◌, length, get_or, slice_set, true, false, Side, same_side, is_of, stretches_of, stretches_with, stretch_bytes}
use Rattle.nbd_session.specs.declared.stretches.Stretch as program

-- the last one is of the other side, or there is none: another one is pushed
pub noted_after : (items : List program.Stretch) (s : Side) (n : ℕ) → is_of s (slice_get items (length items - 1)) ≡ false → stretches_of (items ++ record { from = s; length = n } ∷ []) ≡ stretches_with (stretches_of items) s n
noted_after (x ∷ y ∷ xs) s n f = grind (arith, noted_after (y ∷ xs) s n)
noted_after items s n f = grind arith

-- the last one is of this side
pub is_last_of : (items : List program.Stretch) (last : program.Stretch) (s : Side) (i : ℕ) → length items ≡ i + 1 → last ≡ get_or items i last → is_of s (slice_get items (length items - 1)) ≡ true → same_side s last.from ≡ true
is_last_of items last s i long there t = grind (arith, slice_get-get_or, slice_get)

-- it is not longer than all of its side
pub last_within : (items : List program.Stretch) (i : ℕ) (last : program.Stretch) (s : Side) → length items ≡ i + 1 → last ≡ get_or items i last → same_side s last.from ≡ true → last.length ≤ stretch_bytes s (stretches_of items)
last_within (x ∷ xs) (suc i) last s long there t = grind (arith, last_within xs i last s)
last_within items i last s e q h = grind arith

-- it grows
pub noted_grown : (items : List program.Stretch) (i : ℕ) (last : program.Stretch) (s : Side) (n : ℕ) → length items ≡ i + 1 → last ≡ get_or items i last → same_side s last.from ≡ true →
    stretches_of (slice_set items i (record { from = last.from; length = last.length + n })) ≡ stretches_with (stretches_of items) s n
noted_grown (x ∷ y ∷ xs) (suc i) last s n long there t = grind (arith, noted_grown (y ∷ xs) i last s n)
noted_grown items i last s n e q h = grind arith
