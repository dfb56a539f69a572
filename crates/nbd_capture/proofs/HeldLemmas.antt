-- What an export holds, as a list, and bytes that are laid behind the first ones.
use Rattle.nbd_capture.proofs.Common.{◌≡◌, ℕ, ◌+◌, ◌-◌, ◌<◌, ◌≤◌, List, ◌++◌, length, get_or, sym, ap, ◌∙◌, arith, Option, Some, None, slice_get, Held, held_from, known, told, unknown, zeroes}
use Rattle.nbd_export.proofs.{HeldLemmas.{held_from-append, held_from-list, held_from-same}, ExtentLemmas.{changed_before, changed_inside}}
use Rattle.nbd_export.specs.Ranges as ranges
use Rattle.nbd_export.specs.Ranges.{AreSameBelow, overlay}
use Rattle.std.proofs.lemmas.{List.{get_or-map, get_or-replicate, length-map, length-replicate}, Option.slice_get-get_or}

-- how many bytes a piece has
pub length-unknown : (n : ℕ) → length (told (unknown n)) ≡ n
length-unknown n = length-replicate n None

pub length-zeroes : (n : ℕ) → length (told (zeroes n)) ≡ n
length-zeroes n = length-replicate n (Some 0)

pub length-known : (bytes : List ℕ) → length (told (known bytes)) ≡ length bytes
length-known bytes = length-map bytes Some

-- the bytes of each kind of piece, by their offsets
pub unknown_at : (at n i : ℕ) → i < length (told (unknown n)) → ranges.unknown (at + i) ≡ get_or (told (unknown n)) i None
unknown_at at n i lt = let l = length-replicate {A = Option ℕ} n None in sym (get_or-replicate {A = Option ℕ} n i None None (omega (arith, l)))

pub zeroes_at : (at n i : ℕ) → i < length (told (zeroes n)) → ranges.zeroes (at + i) ≡ get_or (told (zeroes n)) i None
zeroes_at at n i lt = let l = length-replicate {A = Option ℕ} n (Some 0) in sym (get_or-replicate {A = Option ℕ} n i (Some 0) None (omega (arith, l)))

pub known_at : (at : ℕ) (bytes : List ℕ) (i : ℕ) → i < length (told (known bytes)) → ranges.bytes_from at bytes (at + i) ≡ get_or (told (known bytes)) i None
known_at at bytes i lt =
    let l = length-map bytes Some in
    let inside : i < length bytes = omega (arith, l) in
    let is : at + i - at ≡ i = omega arith in
    ap (slice_get bytes) is ∙ slice_get-get_or bytes i 0 inside ∙ sym (get_or-map Some bytes i 0 None inside)

-- the same of a range whose length is that of the bytes
pub laid_here : (new old f : ℕ → Option ℕ) (size at len : ℕ) (said : Held) → length said ≡ len → at + len ≤ size
    → AreSameBelow size new (overlay at len f old) → ((i : ℕ) → i < length said → f (at + i) ≡ get_or said i None)
    → held_from new 0 (at + len) ≡ held_from old 0 at ++ said
laid_here new old f size at len said is fits same bytes = grind (arith, held_from-append, held_from-same, changed_before, held_from-list, changed_inside)
