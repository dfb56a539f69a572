-- The count of the first message that showed an offset, from a piece on.
use Rattle.nbd_order.proofs.Common.{◌≡◌, ℕ, zero, suc, ◌≤◌, List, [], ◌∷◌, length, refl, ◌∙◌, ap, Option, Some, None, if◌then◌else◌, arith, drop, slice_get, with_counts, Piece, is_in, piece_offset, piece_size, first_shown}

-- the same, of the pieces and counts from index i on
abbrev pub shown_from : List Piece → (counts : List ℕ) → (i x : ℕ) → Option ℕ
shown_from pieces counts i x = first_shown (with_counts (drop i pieces) (drop i counts)) x

pub from_first : (ps : List Piece) (cs : List ℕ) (x : ℕ) → shown_from ps cs 0 x ≡ first_shown (with_counts ps cs) x
from_first [] cs x = refl
from_first (p ∷ ps) [] x = refl
from_first (p ∷ ps) (n ∷ cs) x = refl

-- by whether piece i holds x
pub from_next : (ps : List Piece) (cs : List ℕ) (i x : ℕ) (p : Piece) (n : ℕ) → slice_get ps i ≡ Some p → slice_get cs i ≡ Some n
    → shown_from ps cs i x ≡ (if is_in (piece_offset p) (piece_size p) x then Some n else shown_from ps cs (suc i) x)
from_next [] cs i x p n e f = absurd (cc)
from_next (q ∷ ps) [] i x p n e f = absurd (cc)
from_next (q ∷ ps) (m ∷ cs) zero x p n e f =
    let a : q ≡ p = cc in
    let b : m ≡ n = cc in
    ap (λ y. if is_in (piece_offset y) (piece_size y) x then Some m else first_shown (with_counts (drop 0 ps) (drop 0 cs)) x) a
    ∙ ap (λ k. if is_in (piece_offset p) (piece_size p) x then Some k else first_shown (with_counts (drop 0 ps) (drop 0 cs)) x) b
from_next (q ∷ ps) (m ∷ cs) (suc i) x p n e f = from_next ps cs i x p n e f

-- there is no count i
pub from_end : (ps : List Piece) (cs : List ℕ) (i x : ℕ) → length cs ≤ i → shown_from ps cs i x ≡ None
from_end ps [] i x l = past (drop i ps) i
  where
    past : (rest : List Piece) (i : ℕ) → first_shown (with_counts rest (drop i [])) x ≡ None
    past [] i = refl
    past (p ∷ rest) zero = refl
    past (p ∷ rest) (suc i) = refl
from_end ps (m ∷ cs) zero x l = absurd (omega arith)
from_end [] (m ∷ cs) (suc i) x l = refl
from_end (q ∷ ps) (m ∷ cs) (suc i) x l = from_end ps cs i x (omega arith)
