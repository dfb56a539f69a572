-- Pieces of contents: how bytes are cut, and how neighbours are joined.
use Rattle.nbd_lines.proofs.Common.{◌≡◌, ℕ, zero, suc, ◌+◌, ◌%◌, ◌==◌, ◌<◌, Bool, true, false, List, [], ◌∷◌, ◌++◌, length, ap, ◌∙◌, arith, append_assoc, drop, get_or, ne_eqb, space, Some, None, Held, Piece, are_zeroes, before_pieces, cut, join, joined, known, shown, unknown, zeroes}
use Rattle.std.proofs.Common.{drop-cons, map, replicate}

-- ---- joining

pub join_unknown : (m n k : ℕ) → m + n ≡ k → (pieces : List Piece) → join (unknown m) (join (unknown n) pieces) ≡ join (unknown k) pieces
join_unknown m n k e pieces = grind arith

pub join_zeroes : (m n k : ℕ) → m + n ≡ k → (pieces : List Piece) → join (zeroes m) (join (zeroes n) pieces) ≡ join (zeroes k) pieces
join_zeroes m n k e pieces = grind arith

pub apart_unknown_zeroes : (m n : ℕ) (pieces : List Piece) → join (unknown m) (join (zeroes n) pieces) ≡ unknown m ∷ join (zeroes n) pieces
apart_unknown_zeroes m n pieces = grind arith

pub apart_zeroes_unknown : (m n : ℕ) (pieces : List Piece) → join (zeroes m) (join (unknown n) pieces) ≡ zeroes m ∷ join (unknown n) pieces
apart_zeroes_unknown m n pieces = grind arith

pub join_known : (bytes : List ℕ) (pieces : List Piece) → join (known bytes) pieces ≡ known bytes ∷ pieces
join_known bytes pieces = grind arith

-- ---- cutting

-- no piece of known bytes goes on across this offset
abbrev pub IsCut : ℕ → Held → Type 0
IsCut offset rest = (byte : ℕ) → before_pieces byte (offset % 32 == 0) (cut offset rest) ≡ known (byte ∷ []) ∷ cut offset rest

pub cut_at_multiple : (offset : ℕ) (rest : Held) → (offset % 32 == 0) ≡ true → IsCut offset rest
cut_at_multiple offset rest e byte = grind arith

pub cut_at_end : (offset : ℕ) → IsCut offset []
unfolding cut
cut_at_end offset byte = grind arith

pub cut_at_unknown : (offset : ℕ) (rest : Held) → IsCut offset (None ∷ rest)
unfolding cut
cut_at_unknown offset rest byte = grind arith

-- unknown bytes
pub cut_unknown : (offset n end : ℕ) (rest : Held) → offset + suc n ≡ end → joined (cut offset (replicate (suc n) None ++ rest)) ≡ join (unknown (suc n)) (joined (cut end rest))
unfolding cut
cut_unknown offset zero end rest e = (let is : offset + 1 ≡ end = omega arith in ap (λ o. join (unknown 1) (joined (cut o rest))) is)
cut_unknown offset (suc n) end rest e = grind (arith, join_unknown, cut_unknown (offset + 1) n end rest)

-- where known bytes come first, they are zeroes
abbrev pub BeginsZero : List Piece → Type 0
BeginsZero (known bytes ∷ pieces) = are_zeroes bytes ≡ true
BeginsZero pieces = Unit {0}

zero_first : (b : Bool) (pieces : List Piece) → BeginsZero pieces → BeginsZero (before_pieces 0 b pieces) × (joined (before_pieces 0 b pieces) ≡ join (zeroes 1) (joined pieces))
zero_first b pieces z = grind (arith, join_zeroes)

-- zeroes before a cut
pub cut_zeroes : (offset n end : ℕ) (rest : Held) → offset + suc n ≡ end → IsCut end rest
    → BeginsZero (cut offset (replicate (suc n) (Some 0) ++ rest)) × (joined (cut offset (replicate (suc n) (Some 0) ++ rest)) ≡ join (zeroes (suc n)) (joined (cut end rest)))
unfolding cut
cut_zeroes offset zero end rest e c = grind arith
cut_zeroes offset (suc n) end rest e c = grind (arith, zero_first, join_zeroes, cut_zeroes (offset + 1) n end rest)

-- known bytes up to the next cut
pub known_first : (offset : ℕ) (byte : ℕ) (bytes : List ℕ) (end : ℕ) (rest : Held) → offset + suc (length bytes) ≡ end
    → ((x : ℕ) → offset < x → x < end → (x % 32 == 0) ≡ false) → IsCut end rest → cut offset (map Some (byte ∷ bytes) ++ rest) ≡ known (byte ∷ bytes) ∷ cut end rest
unfolding cut
known_first offset byte [] end rest e within c = (let is : offset + 1 ≡ end = omega arith in ap (λ o. before_pieces byte (o % 32 == 0) (cut o rest)) is ∙ c byte)
known_first offset byte (next ∷ bytes) end rest e within c = grind (arith, known_first (offset + 1) next bytes end rest)

-- the same, as it is shown
pub cut_known : (offset : ℕ) (bytes : List ℕ) (end : ℕ) (rest : Held) → offset + length bytes ≡ end → offset < end
    → ((x : ℕ) → offset < x → x < end → (x % 32 == 0) ≡ false) → IsCut end rest → joined (cut offset (map Some bytes ++ rest)) ≡ join (shown (known bytes)) (joined (cut end rest))
cut_known offset [] end rest e some within c = absurd (omega arith)
cut_known offset (byte ∷ bytes) end rest e some within c = ap joined (known_first offset byte bytes end rest (omega arith) within c)

-- ---- lines

-- a line from its head and what stands behind that
pub head_line : (w offset value : List ℕ) → (w ++ (offset ++ space ∷ [])) ++ value ≡ w ++ (offset ++ space ∷ value)
head_line w offset value = append_assoc w (offset ++ space ∷ []) value ∙ ap (λ l. w ++ l) (append_assoc offset (space ∷ []) value)

pub not_zeroes : (bytes : List ℕ) (i : ℕ) → i < length bytes → are_zeroes bytes ≡ are_zeroes (drop i bytes) → (get_or bytes i 0 ≡ 0 → ⊥) → false ≡ are_zeroes bytes
not_zeroes bytes i lt same ne = grind (arith, drop-cons, ne_eqb)
