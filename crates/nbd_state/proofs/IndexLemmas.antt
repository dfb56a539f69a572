-- What an index of pieces tells, and what one more piece changes.
use Rattle.nbd_state.proofs.Common.{◌≡◌, ℕ, IsTrue, nat_lt, ◌-◌, ◌+◌, ◌<◌, ◌≤◌, inl, inr, List, [], ◌∷◌, ◌++◌, refl, sym, ◌∙◌, ap, Option, Some, None, Bool, false, IsSome, MatchBool, arith, ◌&&◌, nat_le, eqb-true, eq-eqb, length, slice_index_or, and-true, and-false, and_parts, leb-true, le-leb, lt-ltb, ltb-false, ltb-true, cases_order, BTreeMap, btree_map_len, is_at, lookup, nat_cmp, Piece, is_in, piece_offset, piece_size, is_apart, is_apart_from, HasMore, IsApart, IsBare, IsHeldFrom, IsIndex, size_from}

pub bounds_in : (offset len x : ℕ) → offset ≤ x → x < offset + len → IsTrue (is_in offset len x)
bounds_in offset len x lo hi = ap (λ b. b && nat_lt x (offset + len)) (le-leb offset x lo) ∙ lt-ltb x (offset + len) hi

pub out_of_bounds : (offset len x : ℕ) → (offset ≤ x → x < offset + len → ⊥) → is_in offset len x ≡ false
out_of_bounds offset len x none = grind (arith, and_parts, nat_le, nat_lt, leb-true, ltb-true)

-- of no piece
pub index-none : (sizes : ℕ → Option ℕ) → ((k : ℕ) → sizes k ≡ None) → IsIndex sizes []
index-none sizes none = grind arith

apart-append : (p q : Piece) (ps : List Piece) → is_apart_from p (ps ++ q ∷ []) ≡ (is_apart_from p ps && is_apart p q)
apart-append p q [] = and-true (is_apart p q)
apart-append p q (r ∷ ps) = grind (arith, and-true, apart-append p q ps)

is_apart-false : (p q : Piece) → (IsApart (piece_offset p) (piece_size p) (piece_offset q) (piece_size q) → ⊥) → is_apart p q ≡ false
is_apart-false p q h = grind (arith, nat_le, leb-true)

-- of one piece more
pub index-more : (old new : ℕ → Option ℕ) (ps : List Piece) (q : Piece) → IsIndex old ps → HasMore old new (piece_offset q) (piece_size q) → IsIndex new (ps ++ q ∷ [])
index-more old new ps q i more = grind (arith, apart-append, eq-eqb, eqb-true, is_apart-false, and-false, nat_le, le-leb)

-- the last piece that begins before an offset tells of all that do
pub last-before : (sizes : ℕ → Option ℕ) (offset first size : ℕ) (b : Bool) → ((k n j m : ℕ) → sizes k ≡ Some n → sizes j ≡ Some m → k < j → k + n ≤ j) →
    sizes first ≡ Some size → first < offset → ((q : ℕ) → q < offset → IsSome (sizes q) → q ≤ first) → b ≡ nat_le (first + size) offset →
    MatchBool b ((k n : ℕ) → sizes k ≡ Some n → k < offset → k + n ≤ offset) ((k : ℕ) × (n : ℕ) × (sizes k ≡ Some n) × (k < offset) × (offset < k + n))
last-before sizes offset first size b apart at lo last e = grind (arith, cases_order, leb-true)

-- the last span that begins at an offset or before
pub held-from : (sizes : ℕ → Option ℕ) (offset first size held : ℕ) → ((k n j m : ℕ) → sizes k ≡ Some n → sizes j ≡ Some m → k < j → k + n ≤ j) →
    sizes first ≡ Some size → first ≤ offset → ((q : ℕ) → q ≤ offset → IsSome (sizes q) → q ≤ first) → held ≡ size - (offset - first) → IsHeldFrom sizes offset held
held-from sizes offset first size held apart at lo last e = grind (arith, nat_lt, ltb-true, bounds_in, ltb-false, out_of_bounds, cases_order, and_parts, nat_le, leb-true)

-- where none holds the next offset
pub bare-next : (sizes : ℕ → Option ℕ) (offset size done held : ℕ) → done < size → IsHeldFrom sizes (offset + done) held → held ≡ 0 → (x : ℕ) × IsTrue (is_in offset size x) × IsBare sizes x
bare-next sizes offset size done held l (inl none) e = (offset + done, bounds_in offset size (offset + done) (omega arith) (omega (arith, l)), none.1)
bare-next sizes offset size done held l (inr here) e = absurd (let p : 0 < held = here.0 in omega (arith, p, e))

-- an index that took in the first piece
pub index-first : (m : BTreeMap ℕ ℕ) (new : ℕ → Option ℕ) (q : Piece) → btree_map_len m ≡ 0 → HasMore (size_from m) new (piece_offset q) (piece_size q) → IsIndex new (q ∷ [])
index-first m new q e more = index-more (size_from m) new [] q (index-none (size_from m) (λ k. ap (lookup (is_at (nat_cmp k))) (empty m.entries e))) more
  where
    empty : (es : List (ℕ × ℕ)) → length es ≡ 0 → es ≡ []
    empty [] e = refl
    empty (x ∷ es) e = absurd (omega (arith, e))

-- the only piece
pub only-piece : (ps : List Piece) (q : Piece) → length ps ≡ 1 → q ≡ slice_index_or ps 0 q → ps ≡ q ∷ []
only-piece (p ∷ []) q l e = ap (λ r. r ∷ []) (sym e)
only-piece ps q l e = grind arith
