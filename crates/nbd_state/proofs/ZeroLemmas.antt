-- What descriptors call zero, one after the other.
use Rattle.nbd_state.proofs.Common.{◌≡◌, ℕ, ◌+◌, ◌-◌, ◌<◌, ◌≤◌, ◌^◌, ◌==◌, ◌&&◌, List, [], min, refl, sym, ◌∙◌, ap, Bool, true, false, if◌then◌else◌, nat_le, arith, Piece, Extent, Status, zeroes_in, Exporting, Operation, is_proper, proper_range, none_of_none}
use Rattle.std.proofs.Common.{leb-true, leb-false}
use Rattle.nbd_wire.specs.declared.commands.TheConstants as commands

-- what is left of the range is gone on with
pub next_zeroes : (offset length left : ℕ) (x : Extent) (xs : List Extent) → left ≤ length →
    zeroes_in (offset + (length - left) + x.length) (left - x.length) xs ≡ zeroes_in (offset + (length - (left - min x.length left))) (left - min x.length left) xs
next_zeroes offset length left x xs l = go (nat_le x.length left) refl
  where
    go : (b : Bool) → nat_le x.length left ≡ b → zeroes_in (offset + (length - left) + x.length) (left - x.length) xs ≡ zeroes_in (offset + (length - (left - min x.length left))) (left - min x.length left) xs
    go true h =
        let fits = leb-true x.length left h in
        (λ i. zeroes_in (at fits i) (rest fits i) xs)
      where
        at : x.length ≤ left → offset + (length - left) + x.length ≡ offset + (length - (left - min x.length left))
        at f = omega (arith, f, l)

        rest : x.length ≤ left → left - x.length ≡ left - min x.length left
        rest f = omega (arith, f)
    go false h =
        let long = leb-false x.length left h in
        ap (λ n. zeroes_in (offset + (length - left) + x.length) n xs) (let z : left - x.length ≡ 0 = omega (arith, long) in z) ∙ none_of_none _ xs
        ∙ sym (none_of_none _ xs) ∙ ap (λ n. zeroes_in (offset + (length - (left - min x.length left))) n xs) (let z : 0 ≡ left - min x.length left = omega (arith, long) in z)

-- what a request is told, by the exchange that shows it
pub if_proper : (export : Exporting) (e : Operation) (command offset length : ℕ) (proper told : Bool) (y : List Piece) (s : Status) → export.size < 2 ^ 64 →
    command ≡ e.command → offset ≡ e.offset → length ≡ e.length → proper ≡ is_proper export e →
    ((command ≡ commands.BLOCK_STATUS → proper ≡ true → offset + length < 2 ^ 64) →
    y ≡ (if told && ((command == commands.BLOCK_STATUS) && proper) then zeroes_in offset length s.extents else [])) →
    y ≡ (if told && ((e.command == commands.BLOCK_STATUS) && is_proper export e) then zeroes_in e.offset e.length s.extents else [])
if_proper export e command offset length proper told y s fits c o l p q = grind (arith, proper_range)
