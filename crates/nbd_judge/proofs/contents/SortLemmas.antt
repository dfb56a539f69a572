-- Pieces in the order of their offsets, and those that meet a part.
use Rattle.nbd_judge.proofs.Common.{◌≡◌, ℕ, zero, suc, ◌+◌, ◌-◌, ◌<◌, ◌≤◌, inl, inr, List, [], ◌∷◌, length, max, refl, sym, ◌∙◌, ap, subst, Option, Some, None, Bool, true, false, arith, nat_le, nat_lt, cond, slice_get, slice_index_or, IsTrue, map, Bor, take, drop, filter, sum_by, leb-true, leb-false, lt-ltb, ltb-false, ltb-true, cases_Bool, cases_eq, length-drop, length-map, length-take-le, sum_by-cons, Contains-permutation, IsPermutation-map, IsPermutation-sym, sum_by-IsPermutation, get_or_from_slice_get, slice_get_within, slice_get-get_or, slice_get-map, option_map, BTreeMap, get, nat_cmp, Contains, IsNonDecreasingBy, IsPartitionPoint, IsPermutation, Vec, Part, Piece, holds, is_in, piece_offset, piece_size, Asked, asked_at, IsLeast, AddsSorted, AreApart, AreInOrder, AreInside, AreSorted, AreThose, DiffersInOneOf, DiffersInOneWithin, IsOneOf, IsSortedAt}
use Rattle.nbd_judge.proofs.contents.{CompareLemmas.{contained, from_in, in_from, least_as}, RangeLemmas.{drop_get, take_get}}

-- the pieces behind references
abbrev seen : List (Bor Piece) → List Piece
seen ps = map (λ p. p.now) ps

at_seen : (ps : List (Bor Piece)) (i : ℕ) (d : Bor Piece) → i < length ps → slice_get (seen ps) i ≡ Some (slice_index_or ps i d).now
at_seen ps i d l = slice_get-map (λ p. p.now) ps i ∙ ap (option_map (λ p. p.now)) (slice_get-get_or ps i d l)

from_seen : (ps : List (Bor Piece)) (i : ℕ) (p : Piece) → slice_get (seen ps) i ≡ Some p → (b : Bor Piece) × (slice_get ps i ≡ Some b) × (b.now ≡ p)
from_seen [] i p e = absurd (let q : None ≡ Some p = e in cc)
from_seen (b ∷ ps) zero p e = (b, refl, cc)
from_seen (b ∷ ps) (suc i) p e = from_seen ps i p e

in_seen : (ps : List (Bor Piece)) (i : ℕ) (b : Bor Piece) → slice_get ps i ≡ Some b → slice_get (seen ps) i ≡ Some b.now
in_seen ps i b e = slice_get-map (λ p. p.now) ps i ∙ ap (option_map (λ p. p.now)) e

-- what a search over pieces in order asks
rises : (f : Piece → ℕ) → ((p q : Piece) → piece_offset p + piece_size p ≤ piece_offset q → f p ≤ f q) → (ps : List (Bor Piece)) → AreInOrder (seen ps) → IsNonDecreasingBy (λ (p : Bor Piece). f p.now) ps
rises f up ps h i j d le l = elim (cases_eq i j) [
  | inl e ↦ (let t = ap (λ k. f (slice_index_or ps k d).now) e in omega (arith, t))
  | inr ne ↦ up (slice_index_or ps i d).now (slice_index_or ps j d).now (h.apart i j _ _ (omega arith) (at_seen ps i d (omega arith)) (at_seen ps j d l))
]

pub ends_rise : (ps : List (Bor Piece)) → AreInOrder (seen ps) → IsNonDecreasingBy (λ (p : Bor Piece). piece_offset p.now + piece_size p.now) ps
ends_rise = rises (λ p. piece_offset p + piece_size p) (λ p q l. omega arith)

pub begins_rise : (ps : List (Bor Piece)) (from : ℕ) → AreInOrder (seen ps) → IsNonDecreasingBy (λ (p : Bor Piece). piece_offset p.now - from) ps
begins_rise ps from = rises (λ p. piece_offset p - from) (λ p q l. omega arith) ps

-- the pieces between two places
module _ (ps : List (Bor Piece)) (before count : ℕ) (low : before ≤ length ps) (high : count ≤ length (take (length ps - before) (drop before ps))) where
  abbrev rest : List (Bor Piece)
  rest = take (length ps - before) (drop before ps)

  rest_length : length rest ≡ length ps - before
  rest_length = (let d = length-drop before ps in length-take-le (length ps - before) (drop before ps) (omega arith))

  rest_get : (j : ℕ) → j < length ps - before → slice_get rest j ≡ slice_get ps (before + j)
  rest_get j l = take_get (drop before ps) (length ps - before) j l ∙ drop_get ps before j

  chosen_get : (j : ℕ) → j < count → slice_get (take count rest) j ≡ slice_get ps (before + j)
  chosen_get j l = take_get rest count j l ∙ rest_get j (let r = rest_length in omega (arith, r))

  pub those_between : (part : Part) → AreInOrder (seen ps) → IsPartitionPoint (λ (p : Bor Piece). nat_le (piece_offset p.now + piece_size p.now) part.offset ≡ true) (λ (p : Bor Piece). nat_le (piece_offset p.now + piece_size p.now) part.offset ≡ false) ps before
      → IsPartitionPoint (λ (p : Bor Piece). nat_lt (piece_offset p.now - part.offset) part.length ≡ true) (λ (p : Bor Piece). nat_lt (piece_offset p.now - part.offset) part.length ≡ false) rest count
      → AreThose (λ x. IsTrue (is_in part.offset part.length x)) (seen ps) (seen (take count rest))
  those_between part ordered first last = record { among = among; only = only; all = all }
    where
      among : (i : ℕ) (p : Piece) → slice_get (seen (take count rest)) i ≡ Some p → IsOneOf (seen ps) p
      among i p e =
          let b = from_seen (take count rest) i p e in
          let l : i < length (take count rest) = slice_get_within (take count rest) i b.0 b.1 in
          let c : length (take count rest) ≡ count = length-take-le count rest high in
          (before + i, in_seen ps (before + i) b.0 (sym (chosen_get i (omega (arith, l, c))) ∙ b.1) ∙ ap Some b.2)

      only : (i : ℕ) (p : Piece) → slice_get (seen (take count rest)) i ≡ Some p → (x : ℕ) × IsTrue (holds p x) × IsTrue (is_in part.offset part.length x)
      only i p e =
          let b = from_seen (take count rest) i p e in
          let c : length (take count rest) ≡ count = length-take-le count rest high in
          let l : i < length (take count rest) = slice_get_within (take count rest) i b.0 b.1 in
          let under : i < count = omega (arith, l, c) in
          let len = rest_length in
          let inside : before + i < length ps = omega (arith, under, len, high, low) in
          let whole : slice_get ps (before + i) ≡ Some b.0 = sym (chosen_get i under) ∙ b.1 in
          let here : slice_get rest i ≡ Some b.0 = sym (take_get rest count i under) ∙ b.1 in
          let behind : nat_le (piece_offset b.0.now + piece_size b.0.now) part.offset ≡ false =
          subst (λ (r : Bor Piece). nat_le (piece_offset r.now + piece_size r.now) part.offset ≡ false) (get_or_from_slice_get ps (before + i) b.0 b.0 whole) (first.1 (before + i) b.0 (omega arith) inside) in
          let front : nat_lt (piece_offset b.0.now - part.offset) part.length ≡ true =
          subst (λ (r : Bor Piece). nat_lt (piece_offset r.now - part.offset) part.length ≡ true) (get_or_from_slice_get rest i b.0 b.0 here) (last.0 i b.0 (omega arith) under) in
          let end : part.offset < piece_offset p + piece_size p = leb-false (piece_offset p + piece_size p) part.offset (subst (λ (r : Piece). nat_le (piece_offset r + piece_size r) part.offset ≡ false) b.2 behind) in
          let begin : piece_offset p - part.offset < part.length = ltb-true (piece_offset p - part.offset) part.length (subst (λ (r : Piece). nat_lt (piece_offset r - part.offset) part.length ≡ true) b.2 front) in
          let some : 0 < piece_size p = ordered.filled (before + i) p (in_seen ps (before + i) b.0 whole ∙ ap Some b.2) in (
            max (piece_offset p) part.offset,
            in_from (piece_offset p) (piece_size p) (max (piece_offset p) part.offset) (omega arith) (omega (arith, end, some)),
            in_from part.offset part.length (max (piece_offset p) part.offset) (omega arith) (omega (arith, begin)),
          )

      all : (i : ℕ) (p : Piece) (x : ℕ) → slice_get (seen ps) i ≡ Some p → IsTrue (holds p x) → IsTrue (is_in part.offset part.length x) → IsOneOf (seen (take count rest)) p
      all i p x e h m =
          let b = from_seen ps i p e in
          let l : i < length ps = slice_get_within ps i b.0 b.1 in
          let at = from_in (piece_offset p) (piece_size p) x h in
          let lo : piece_offset p ≤ x = at.0 in
          let hi : x < piece_offset p + piece_size p = at.1 in
          let within = from_in part.offset part.length x m in
          let from : part.offset ≤ x = within.0 in
          let below : x < part.offset + part.length = within.1 in
          let met : i < before → ⊥ = λ t.
          (let ends = subst (λ (r : Bor Piece). nat_le (piece_offset r.now + piece_size r.now) part.offset ≡ true) (get_or_from_slice_get ps i b.0 b.0 b.1) (first.0 i b.0 (omega arith) t) in
          let bad = leb-true (piece_offset p + piece_size p) part.offset (subst (λ (r : Piece). nat_le (piece_offset r + piece_size r) part.offset ≡ true) b.2 ends) in
          omega (arith, lo, hi, from, bad)) in
          let behind : before ≤ i = omega (arith, met) in
          let place : before + (i - before) ≡ i = omega (arith, behind) in
          let len = rest_length in
          let there : slice_get rest (i - before) ≡ Some b.0 = rest_get (i - before) (omega (arith, behind, l)) ∙ ap (slice_get ps) place ∙ b.1 in
          let within_count : count ≤ i - before → ⊥ = λ u.
          (let past = subst (λ (r : Bor Piece). nat_lt (piece_offset r.now - part.offset) part.length ≡ false) (get_or_from_slice_get rest (i - before) b.0 b.0 there) (last.1 (i - before) b.0 u (omega (arith, len, behind, l))) in
          let bad = ltb-false (piece_offset p - part.offset) part.length (subst (λ (r : Piece). nat_lt (piece_offset r - part.offset) part.length ≡ false) b.2 past) in
          omega (arith, lo, from, below, bad)) in
          (i - before, in_seen (take count rest) (i - before) b.0 (take_get rest count (i - before) (omega (arith, within_count)) ∙ there) ∙ ap Some b.2)

-- how many of the pieces hold an offset
abbrev one : Bool → ℕ
one true = 1
one false = 0

abbrev holders : ℕ → List Piece → ℕ
holders x [] = 0
holders x (p ∷ ps) = one (holds p x) + holders x ps

holders_sum : (x : ℕ) (ps : List Piece) → holders x ps ≡ sum_by (λ p. one (holds p x)) ps
holders_sum x [] = refl
holders_sum x (p ∷ ps) = ap (λ n. one (holds p x) + n) (holders_sum x ps) ∙ sym (sum_by-cons (λ q. one (holds q x)) p ps)

none_held : (x : ℕ) (ps : List Piece) → ((j : ℕ) (q : Piece) → slice_get ps j ≡ Some q → IsTrue (holds q x) → ⊥) → holders x ps ≡ 0
none_held x [] h = refl
none_held x (p ∷ ps) h = grind (arith, h 0 p refl, none_held x ps (λ j q. h (suc j) q))

one_held : (x : ℕ) (ps : List Piece) → ((i j : ℕ) (p q : Piece) → slice_get ps i ≡ Some p → slice_get ps j ≡ Some q → IsTrue (holds p x) → IsTrue (holds q x) → i ≡ j) → holders x ps ≤ 1
one_held x [] h = omega arith
one_held x (p ∷ ps) h = elim (cases_Bool (holds p x)) [
  | inl here ↦
      let z = none_held x ps (λ j q at held. (let s : 0 ≡ suc j = h 0 (suc j) p q refl at here held in omega arith)) in
      grind (arith, here, z)
  | inr away ↦
      let few = one_held x ps (λ i j q r a c d f. (let s : suc i ≡ suc j = h (suc i) (suc j) q r a c d f in omega arith)) in
      grind (arith, away, few)
]

some_held : (x : ℕ) (ps : List Piece) (j : ℕ) (q : Piece) → slice_get ps j ≡ Some q → IsTrue (holds q x) → 1 ≤ holders x ps
some_held x [] j q e h = absurd (cc)
some_held x (p ∷ ps) zero q e h = (let s : p ≡ q = cc in let o : one (holds p x) ≡ 1 = ap (λ (r : Piece). one (holds r x)) s ∙ ap one h in omega arith)
some_held x (p ∷ ps) (suc j) q e h = (let l : 1 ≤ holders x ps = some_held x ps j q e h in omega arith)

two_held : (x : ℕ) (ps : List Piece) (i j : ℕ) (p q : Piece) → i < j → slice_get ps i ≡ Some p → slice_get ps j ≡ Some q → IsTrue (holds p x) → IsTrue (holds q x) → 2 ≤ holders x ps
two_held x [] i j p q l e f g h = absurd (cc)
two_held x (r ∷ ps) i zero p q l e f g h = absurd (omega arith)
two_held x (r ∷ ps) zero (suc j) p q l e f g h =
    (let s : r ≡ p = cc in let o : one (holds r x) ≡ 1 = ap (λ (t : Piece). one (holds t x)) s ∙ ap one g in let m : 1 ≤ holders x ps = some_held x ps j q f h in omega arith)
two_held x (r ∷ ps) (suc i) (suc j) p q l e f g h = (let m : 2 ≤ holders x ps = two_held x ps i j p q (omega arith) e f g h in omega arith)

-- the pieces that hold an offset
abbrev is_filled : Piece → Bool
is_filled p = nat_lt 0 (piece_size p)

fewer_held : (x : ℕ) (ps : List Piece) → holders x (filter is_filled ps) ≤ holders x ps
fewer_held x [] = omega arith
fewer_held x (p ∷ ps) = grind (arith, fewer_held x ps)

from_filled : (ps : List Piece) (i : ℕ) (p : Piece) → slice_get (filter is_filled ps) i ≡ Some p → IsOneOf ps p × (is_filled p ≡ true)
from_filled [] i p e = absurd (let q : None ≡ Some p = e in cc)
from_filled (q ∷ ps) i p e = go (is_filled q) refl i (from_filled ps) e
  where
    go : (b : Bool) → is_filled q ≡ b → (i : ℕ) → ((i : ℕ) (p : Piece) → slice_get (filter is_filled ps) i ≡ Some p → IsOneOf ps p × (is_filled p ≡ true))
        → slice_get (cond b (q ∷ filter is_filled ps) (filter is_filled ps)) i ≡ Some p → IsOneOf (q ∷ ps) p × (is_filled p ≡ true)
    go true t zero ih f = (let s : q ≡ p = cc in ((0, ap Some s), ap is_filled (sym s) ∙ t))
    go true t (suc i) ih f = (let r = ih i p f in ((suc r.0.0, r.0.1), r.1))
    go false t i ih f = (let r = ih i p f in ((suc r.0.0, r.0.1), r.1))

to_filled : (ps : List Piece) (i : ℕ) (p : Piece) → slice_get ps i ≡ Some p → is_filled p ≡ true → IsOneOf (filter is_filled ps) p
to_filled [] i p e h = absurd (let q : None ≡ Some p = e in cc)
to_filled (q ∷ ps) zero p e h =
    (let s : q ≡ p = cc in let t : is_filled q ≡ true = ap is_filled s ∙ h in (0, ap (λ b. slice_get (cond b (q ∷ filter is_filled ps) (filter is_filled ps)) 0) t ∙ ap Some s))
to_filled (q ∷ ps) (suc i) p e h = go (is_filled q) (to_filled ps i p e h)
  where
    go : (b : Bool) → IsOneOf (filter is_filled ps) p → IsOneOf (cond b (q ∷ filter is_filled ps) (filter is_filled ps)) p
    go true r = (suc r.0, r.1)
    go false r = r

moved : (xs ys : List Piece) (p : Piece) → IsPermutation xs ys → IsOneOf xs p → IsOneOf ys p
moved xs ys p perm o = (let c : Contains ys p = Contains-permutation xs ys p perm (contained xs o.0 p o.1) in (c.0, slice_get-get_or ys c.0 p c.1 ∙ ap Some c.2))

module _ (pieces sorted : List Piece) (apart : AreApart pieces) (perm : IsPermutation (filter is_filled pieces) sorted)
    (rise : (i j : ℕ) (p q : Piece) → i < j → slice_get sorted i ≡ Some p → slice_get sorted j ≡ Some q → piece_offset p ≤ piece_offset q) where
  held_once : (x : ℕ) → holders x sorted ≤ 1
  held_once x =
      let same : holders x sorted ≡ holders x (filter is_filled pieces) =
      holders_sum x sorted ∙ sum_by-IsPermutation (λ p. one (holds p x)) (filter is_filled pieces) sorted perm ∙ sym (holders_sum x (filter is_filled pieces)) in
      let few : holders x (filter is_filled pieces) ≤ holders x pieces = fewer_held x pieces in
      let single : holders x pieces ≤ 1 = one_held x pieces (λ i j p q. apart i j p q x) in
      omega arith

  back : (i : ℕ) (p : Piece) → slice_get sorted i ≡ Some p → IsOneOf pieces p × (is_filled p ≡ true)
  back i p e = (let o = moved sorted (filter is_filled pieces) p (IsPermutation-sym (filter is_filled pieces) sorted perm) (i, e) in from_filled pieces o.0 p o.1)

  filled : (i : ℕ) (p : Piece) → slice_get sorted i ≡ Some p → 0 < piece_size p
  filled i p e = ltb-true 0 (piece_size p) (back i p e).1

  in_order : (i j : ℕ) (p q : Piece) → i < j → slice_get sorted i ≡ Some p → slice_get sorted j ≡ Some q → piece_offset p + piece_size p ≤ piece_offset q
  in_order i j p q l e f =
      let up : piece_offset p ≤ piece_offset q = rise i j p q l e f in
      let size : 0 < piece_size q = filled j q f in
      let few : holders (piece_offset q) sorted ≤ 1 = held_once (piece_offset q) in
      let none : piece_offset q < piece_offset p + piece_size p → ⊥ = λ over.
      (let two = two_held (piece_offset q) sorted i j p q l e f (in_from (piece_offset p) (piece_size p) (piece_offset q) up over) (in_from (piece_offset q) (piece_size q) (piece_offset q) (omega arith) (omega arith)) in omega arith) in
      omega arith

  pub sorted_pieces : AreSorted pieces sorted
  sorted_pieces = record {
    those = record {
      among = λ i p e. (back i p e).0;
      only = λ i p e. (let size = filled i p e in (piece_offset p, in_from (piece_offset p) (piece_size p) (piece_offset p) (omega arith) (omega (arith, size)), tt));
      all = λ i p x e h u. (let at = from_in (piece_offset p) (piece_size p) x h in let lo : piece_offset p ≤ x = at.0 in let hi : x < piece_offset p + piece_size p = at.1 in
          moved (filter is_filled pieces) sorted p perm (to_filled pieces i p e (lt-ltb 0 (piece_size p) (omega arith))));
    };
    in_order = record { filled = filled; apart = in_order };
  }

-- the same of references to pieces
filter_seen : (ps : List (Bor Piece)) → seen (filter (λ p. is_filled p.now) ps) ≡ filter is_filled (seen ps)
filter_seen [] = refl
filter_seen (p ∷ ps) = grind (arith, filter_seen ps)

pub sorted_references : (pieces : List Piece) (all sorted : List (Bor Piece)) → AreApart pieces → seen all ≡ pieces → IsPermutation (filter (λ (p : Bor Piece). nat_lt 0 (piece_size p.now)) all) sorted
    → IsNonDecreasingBy (λ (p : Bor Piece). piece_offset p.now) sorted → AreSorted pieces (seen sorted)
sorted_references pieces all sorted apart is perm rises =
    sorted_pieces pieces (seen sorted) apart
    (subst (λ l. IsPermutation l (seen sorted)) (filter_seen all ∙ ap (filter is_filled) is) (IsPermutation-map (λ p. p.now) (filter (λ p. is_filled p.now) all) sorted perm))
    rise
  where
    rise : (i j : ℕ) (p q : Piece) → i < j → slice_get (seen sorted) i ≡ Some p → slice_get (seen sorted) j ≡ Some q → piece_offset p ≤ piece_offset q
    rise i j p q l e f =
        let b = from_seen sorted i p e in
        let d = from_seen sorted j q f in
        let up = rises i j b.0 (omega arith) (slice_get_within sorted j d.0 d.1) in
        let first = get_or_from_slice_get sorted i b.0 b.0 b.1 in
        let second = get_or_from_slice_get sorted j d.0 b.0 d.1 in
        let low : piece_offset (slice_index_or sorted i b.0).now ≡ piece_offset p = ap (λ (r : Bor Piece). piece_offset r.now) first ∙ ap piece_offset b.2 in
        let high : piece_offset (slice_index_or sorted j b.0).now ≡ piece_offset q = ap (λ (r : Bor Piece). piece_offset r.now) second ∙ ap piece_offset d.2 in
        omega (arith, up, low, high)

-- what the chosen pieces tell of all
pub inside_those : (P : ℕ → Type 0) (size : ℕ) (pieces chosen : List Piece) → AreThose P pieces chosen → AreInside size pieces → AreInside size chosen
inside_those P size pieces chosen those inside i p e = (let o = those.among i p e in inside o.0 p o.1)

differs_back : (byte : ℕ → Option ℕ) (P : ℕ → Type 0) (pieces chosen : List Piece) → AreThose P pieces chosen → (x : ℕ) → DiffersInOneOf byte chosen (length chosen) x → DiffersInOneOf byte pieces (length pieces) x
differs_back byte P pieces chosen those x d = (let o = those.among d.0 d.1 d.3 in (o.0, d.1, slice_get_within pieces o.0 d.1 o.1, o.1, d.4))

differs_there : (byte : ℕ → Option ℕ) (P : ℕ → Type 0) (pieces chosen : List Piece) → AreThose P pieces chosen → (x : ℕ) → P x → DiffersInOneOf byte pieces (length pieces) x → DiffersInOneOf byte chosen (length chosen) x
differs_there byte P pieces chosen those x q d = (let o = those.all d.0 d.1 x d.3 d.4.0 q in (o.0, d.1, slice_get_within chosen o.0 d.1 o.1, o.1, d.4))

pub least_those : (byte : ℕ → Option ℕ) (part : Part) (P : ℕ → Type 0) (pieces chosen : List Piece) (o : Option ℕ) → ((x : ℕ) → IsTrue (is_in part.offset part.length x) → P x) → AreThose P pieces chosen
    → IsLeast (DiffersInOneWithin byte chosen (length chosen) part) o → IsLeast (DiffersInOneWithin byte pieces (length pieces) part) o
least_those byte part P pieces chosen o within those h =
    least_as (DiffersInOneWithin byte chosen (length chosen) part) (DiffersInOneWithin byte pieces (length pieces) part) o
    (λ x d. (differs_back byte P pieces chosen those x d.0, d.1)) (λ x d. (differs_there byte P pieces chosen those x (within x d.1) d.0, d.1)) h

pub least_sorted : (byte : ℕ → Option ℕ) (pieces sorted : List Piece) (o : Option ℕ) → AreSorted pieces sorted
    → IsLeast (DiffersInOneOf byte sorted (length sorted)) o → IsLeast (DiffersInOneOf byte pieces (length pieces)) o
least_sorted byte pieces sorted o s h =
    least_as (DiffersInOneOf byte sorted (length sorted)) (DiffersInOneOf byte pieces (length pieces)) o
    (λ x d. differs_back byte (λ y. Unit {0}) pieces sorted s.those x d) (λ x d. differs_there byte (λ y. Unit {0}) pieces sorted s.those x tt d) h

-- of references, as a comparison in a part ends
pub least_references : (byte : ℕ → Option ℕ) (part : Part) (P : ℕ → Type 0) (pieces : List Piece) (chosen : List (Bor Piece)) (n : ℕ) (o : Option ℕ) → ((x : ℕ) → IsTrue (is_in part.offset part.length x) → P x)
    → AreThose P pieces (seen chosen) → n ≡ length chosen → IsLeast (DiffersInOneWithin byte (seen chosen) n part) o → IsLeast (DiffersInOneWithin byte pieces (length pieces) part) o
least_references byte part P pieces chosen n o within those len h =
    least_those byte part P pieces (seen chosen) o within those (subst (λ m. IsLeast (DiffersInOneWithin byte (seen chosen) m part) o) (len ∙ sym (length-map chosen (λ p. p.now))) h)

pub least_in_part : (byte : ℕ → Option ℕ) (part : Part) (pieces : List Piece) (sorted : List (Bor Piece)) (o : Option ℕ) → AreSorted pieces (seen sorted)
    → IsLeast (DiffersInOneWithin byte (seen sorted) (length sorted) part) o → IsLeast (DiffersInOneWithin byte pieces (length pieces) part) o
least_in_part byte part pieces sorted o s h = least_references byte part (λ x. Unit {0}) pieces sorted (length sorted) o (λ x q. tt) s.those refl h

-- the pieces that are kept of requests stay those of these requests
pub kept_sorted : {A : Type 0} (old new : BTreeMap ℕ (Vec (Bor Piece) A)) (asked : List Asked) (k : ℕ) (one : Asked) → asked_at k asked ≡ Some one → AddsSorted old new k one.pieces
    → ((j : ℕ) (a : Asked) → asked_at j asked ≡ Some a → IsSortedAt old j a.pieces) → (j : ℕ) (a : Asked) → asked_at j asked ≡ Some a → IsSortedAt new j a.pieces
kept_sorted {A} old new asked k one told adds kept j a at v e = elim (adds j v e) [
  | inl before ↦ kept j a at v before
  | inr here ↦ (let same : Some one ≡ Some a = sym told ∙ ap (λ n. asked_at n asked) (sym here.0) ∙ at in let is : one ≡ a = cc in
      subst (λ (b : Asked). AreSorted b.pieces (seen v.items)) is here.1)
]

-- what a map has of a request, once it has these pieces, are they
pub sorted_there : {A : Type 0} (old new : BTreeMap ℕ (Vec (Bor Piece) A)) (k : ℕ) (pieces : List Piece) (v : Vec (Bor Piece) A) → IsSortedAt old k pieces
    → AddsSorted old new k pieces → get nat_cmp new k ≡ Some v → AreSorted pieces (seen v.items)
sorted_there {A} old new k pieces v kept adds at = elim (adds k v at) [
  | inl before ↦ kept v before
  | inr here ↦ here.1
]
