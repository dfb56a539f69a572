-- How far all extents but the last reach.
use Rattle.nbd_session.proofs.Common.{◌≡◌, ℕ, ◌+◌, ◌-◌, ◌<◌, ◌≤◌, List, [], ◌∷◌, Bool, false, not, nat_le, nat_lt, arith, leb-true, ltb-true, ltb-false, lt-leb, sum_by-cons, Extent, reach, but_last}
use Rattle.std.proofs.Common.{le-leb}

-- the range reaches behind the last extent's beginning
abbrev pub Within : ℕ → List Extent → Bool
Within size extents = nat_le size (reach (but_last extents))

-- one extent more
reach-cons : (x : Extent) (xs : List Extent) → reach (x ∷ xs) ≡ x.length + reach xs
reach-cons x xs = sum_by-cons (λ (y : Extent). y.length) x xs

-- one extent on
pub within_next : (whole left : ℕ) (all : List Extent) (x y : Extent) (before later xs : List Extent) → before ≡ x ∷ later → later ≡ y ∷ xs → x.length < left → Within whole all ≡ Within left before → Within whole all ≡ Within (left - x.length) (y ∷ xs)
within_next whole left all x y before later xs b r l h = grind (arith, nat_le, reach-cons, le-leb, leb-true, lt-leb)

-- an extent that reaches the end and is not the last
pub within_passed : (whole left : ℕ) (all : List Extent) (x y : Extent) (before later xs : List Extent) → before ≡ x ∷ later → later ≡ y ∷ xs → left ≤ x.length → Within whole all ≡ Within left before → not (Within whole all) ≡ false
within_passed whole left all x y before later xs b r l h = grind (arith, nat_le, reach-cons, le-leb)

-- none is left behind the last
pub within_last : (whole left : ℕ) (all : List Extent) (x : Extent) (before later : List Extent) → before ≡ x ∷ later → later ≡ [] → Within whole all ≡ Within left before → not (Within whole all) ≡ nat_lt 0 left
within_last whole left all x before later b r h = grind (arith, nat_le, nat_lt, lt-leb, ltb-true, le-leb, ltb-false)
