-- The pieces of what an export holds, from an offset on, as the program finds them.
use Rattle.nbd_lines.proofs.Common.{◌≡◌, ℕ, zero, suc, ◌+◌, ◌-◌, ◌%◌, ◌<◌, ◌≤◌, Bool, true, false, ◌⊎◌, List, ◌++◌, length, get_or, sym, ap, ◌∙◌, subst, arith, ne_eqb, eq-eqb, cases_lt, length-take-le, slice_index, take, Option, Some, None, Held, Piece, are_zeroes, cut, held_from, join, joined, known, shown, unknown, zeroes}
use Rattle.nbd_lines.proofs.PieceTextLemmas.{IsCut, cut_at_end, cut_at_multiple, cut_at_unknown, cut_known, cut_unknown, cut_zeroes}
use Rattle.nbd_export.proofs.HeldLemmas.{held_from-append, held_from-list}
use Rattle.nbd_lines.specs.internal.{piece_of}
use Rattle.nbd_export.specs.{RangeKinds.IsOfKind, declared.kind.Kind.{Kind, TheVariants.{Unknown, Zeroes, Bytes}}}
use Rattle.std.proofs.{Common.{IsSome, map, min, replicate}, lemmas.List.{get_or-take, take-append-le, get_or-map, get_or-replicate, length-map, length-replicate}}

-- the pieces of bytes below a size, from an offset on
abbrev pub pieces_from : (ℕ → Option ℕ) → (size at : ℕ) → List Piece
pieces_from f size at = joined (cut at (held_from f at (size - at)))

module _ (f : ℕ → Option ℕ) (size at end : ℕ) (behind : at < end) (within : end ≤ size) where
  -- the bytes up to an offset, and the others
  split : held_from f at (size - at) ≡ held_from f at (end - at) ++ held_from f end (size - end)
  split =
      let n : size - at ≡ (end - at) + (size - end) = omega arith in
      let o : at + (end - at) ≡ end = omega arith in
      ap (held_from f at) n ∙ held_from-append f at (end - at) (size - end) ∙ ap (λ x. held_from f at (end - at) ++ held_from f x (size - end)) o

  same_from : (l : Held) → length l ≡ end - at → ((i : ℕ) → i < end - at → f (at + i) ≡ get_or l i None) → held_from f at (end - at) ≡ l
  same_from l len h = ap (held_from f at) (sym len) ∙ held_from-list f at l (λ i lt. h i (omega (arith, len, lt)))

  -- no known piece goes on across an offset that is a multiple of 32, or the size, or unknown
  pub is_cut : ((end % 32) ≡ 0) ⊎ ((end ≡ size) ⊎ (f end ≡ None)) → IsCut end (held_from f end (size - end))
  unfolding held_from
  is_cut h = grind (arith, cut_at_multiple, eq-eqb, cut_at_end, cut_at_unknown)

  -- a number of bytes that is not 0
  counted : (P : ℕ → Type 0) → ((n : ℕ) → at + suc n ≡ end → P (suc n)) → P (end - at)
  counted P h = (let n : suc (end - at - 1) ≡ end - at = omega arith in subst P n (h (end - at - 1) (omega arith)))

  pub unknown_piece : ((x : ℕ) → at ≤ x → x < end → f x ≡ None) → pieces_from f size at ≡ join (unknown (end - at)) (pieces_from f size end)
  unknown_piece h =
      let rest = held_from f end (size - end) in
      ap (λ l. joined (cut at l)) (split ∙ ap (λ l. l ++ rest) (same_from (replicate (end - at) None) (length-replicate (end - at) None)
      (λ i lt. h (at + i) (omega arith) (omega arith) ∙ sym (get_or-replicate {A = Option ℕ} (end - at) i None None lt))))
      ∙ counted (λ n. joined (cut at (replicate n None ++ rest)) ≡ join (unknown n) (joined (cut end rest))) (λ n e. cut_unknown at n end rest e)

  pub zeroes_piece : ((x : ℕ) → at ≤ x → x < end → f x ≡ Some 0) → IsCut end (held_from f end (size - end)) → pieces_from f size at ≡ join (zeroes (end - at)) (pieces_from f size end)
  zeroes_piece h border =
      let rest = held_from f end (size - end) in
      ap (λ l. joined (cut at l)) (split ∙ ap (λ l. l ++ rest) (same_from (replicate (end - at) (Some 0)) (length-replicate (end - at) (Some 0))
      (λ i lt. h (at + i) (omega arith) (omega arith) ∙ sym (get_or-replicate {A = Option ℕ} (end - at) i (Some 0) None lt))))
      ∙ counted (λ n. joined (cut at (replicate n (Some 0) ++ rest)) ≡ join (zeroes n) (joined (cut end rest))) (λ n e. (cut_zeroes at n end rest e border).1)

  pub known_piece : (bytes : List ℕ) → length bytes ≡ end - at → ((i : ℕ) → i < end - at → f (at + i) ≡ Some (get_or bytes i 0))
      → ((x : ℕ) → at < x → x < end → x % 32 ≡ 0 → ⊥) → IsCut end (held_from f end (size - end)) → pieces_from f size at ≡ join (shown (known bytes)) (pieces_from f size end)
  known_piece bytes len h inside border =
      let rest = held_from f end (size - end) in
      let whole : at + length bytes ≡ end = omega (arith, len) in
      ap (λ l. joined (cut at l)) (split ∙ ap (λ l. l ++ rest) (same_from (map Some bytes) (length-map bytes Some ∙ len)
      (λ i lt. h i lt ∙ sym (get_or-map Some bytes i 0 None (omega (arith, len, lt))))))
      ∙ cut_known at bytes end rest whole behind (λ x lo hi. ne_eqb (x % 32) 0 (inside x lo hi)) border

-- a kind was chosen by a test
abbrev pub IsChosen : Kind → Bool → Type 0
IsChosen kind test = ((test ≡ true) × (kind ≡ Zeroes)) ⊎ ((test ≡ false) × (kind ≡ Bytes))

shown_by_test : (kind : Kind) (n : ℕ) (bytes : List ℕ) (test : Bool) → test ≡ are_zeroes bytes → IsChosen kind test → length bytes ≡ n → piece_of kind n bytes ≡ shown (known bytes)
shown_by_test kind n bytes test e h len = grind arith

-- known bytes that were read up to the next cut, the size or the next unknown byte
pub known_there : (f : ℕ → Option ℕ) (size at n room : ℕ) (into tail : List ℕ) (kind : Kind) → at < size → room ≡ min (32 - at % 32) (size - at) → length into ≡ room → n ≤ room
    → IsSome (f at) → ((i : ℕ) → i < n → f (at + i) ≡ Some (slice_index into i)) → (n < room → f (at + n) ≡ None)
    → (test : Bool) → test ≡ are_zeroes (take n (into ++ tail)) → IsChosen kind test
    → pieces_from f size at ≡ join (piece_of kind (at + n - at) (take (at + n - at) (into ++ tail))) (pieces_from f size (at + n))
known_there f size at n room into tail kind inside room_is len few some h none test tested chosen =
    let m : at + n - at ≡ n = omega arith in
    let least : 0 < room = omega arith in
    let more : 0 < n = at_least n room least f at some none in
    let bytes = take n (into ++ tail) in
    let fits : n ≤ length into = omega (arith, len, few) in
    let same : bytes ≡ take n into = take-append-le n into tail fits in
    let size_is : length bytes ≡ n = ap length same ∙ length-take-le n into fits in
    let border : ((at + n) % 32 ≡ 0) ⊎ ((at + n ≡ size) ⊎ (f (at + n) ≡ None)) = grind (arith, cases_lt n room, cases_lt (size - at) (32 - at % 32)) in
    known_piece f size at (at + n) (omega arith) (omega arith) bytes (omega (arith, size_is))
    (λ i lt. let l : i < n = omega arith in h i l ∙ ap Some (sym (ap (λ b. get_or b i 0) same ∙ get_or-take n into i 0 l)))
    (λ x lo hi e. omega arith) (is_cut f size at (at + n) (omega arith) (omega arith) border)
    ∙ ap (λ p. join p (pieces_from f size (at + n))) (sym (shown_by_test kind n bytes test tested chosen size_is) ∙ ap (λ k. piece_of kind k (take k (into ++ tail))) (sym m))
  where
    at_least : (n room : ℕ) → 0 < room → (f : ℕ → Option ℕ) (at : ℕ) → IsSome (f at) → (n < room → f (at + n) ≡ None) → 0 < n
    at_least zero room least f at some none = let z : at + 0 ≡ at = omega arith in grind (arith, z)
    at_least (suc n) room least f at some none = omega arith

-- what a range of a kind says of its bytes
pub of_unknown : (kind : Kind) (byte : Option ℕ) → kind ≡ Unknown → IsOfKind kind byte → byte ≡ None
of_unknown kind byte e h = grind arith

pub of_zeroes : (kind : Kind) (byte : Option ℕ) → kind ≡ Zeroes → IsOfKind kind byte → byte ≡ Some 0
of_zeroes kind byte e h = grind arith
