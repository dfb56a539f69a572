-- What of printed contents is not written yet, while their pieces are gone through.
use Rattle.nbd_lines.proofs.Common.{◌≡◌, ℕ, zero, suc, ◌+◌, ◌-◌, ◌<◌, ◌≤◌, List, [], ◌∷◌, ◌++◌, AreHeld, IfSome, Some, cases_lt, length, refl, sym, ap, ◌∙◌, subst, arith, append-nil, ◌⊎◌, inl, inr, Option, Appends, AppendsPrefix, Piece, cut, held_from, join, joined, known, piece_line, piece_lines, printed, size_line, unknown, zeroes}
use Rattle.nbd_lines.proofs.{PieceTextLemmas.{apart_unknown_zeroes, apart_zeroes_unknown, join_known, join_unknown, join_zeroes}, ShowingLemmas.pieces_from}
use Rattle.nbd_capture.specs.Contents.{told}
use Rattle.nbd_export.proofs.HeldLemmas.{length-held_from}
use Rattle.nbd_capture.proofs.{HeldLemmas.{length-known, length-unknown, length-zeroes}, WriterLemmas.{Wrote, broken_off, one_more, plainly}}
use Rattle.nbd_lines.specs.internal.{piece_of, run_line}
use Rattle.nbd_export.specs.declared.kind.Kind.{Kind, TheVariants.{Unknown, Zeroes, Bytes}}

-- the lines of pieces from an offset on, with that of the bytes of this kind before it
abbrev pub unwritten : Kind → (from at : ℕ) → List Piece → List ℕ
unwritten Unknown from at pieces = piece_lines from (join (unknown (at - from)) pieces)
unwritten Zeroes from at pieces = piece_lines from (join (zeroes (at - from)) pieces)
unwritten Bytes from at pieces = piece_lines at pieces

-- the same with the next piece, whose run began at an offset
abbrev pub with_next : Kind → (begun at end : ℕ) → List ℕ → List Piece → List ℕ
with_next Unknown begun at end bytes pieces = piece_lines begun (join (unknown (end - begun)) pieces)
with_next Zeroes begun at end bytes pieces = piece_lines begun (join (zeroes (end - begun)) pieces)
with_next Bytes begun at end bytes pieces = piece_line at (known bytes) ++ piece_lines end pieces

-- the lines of a piece and of others
lines_of : (p : Piece) (offset end : ℕ) (pieces : List Piece) → offset + length (told p) ≡ end → piece_lines offset (p ∷ pieces) ≡ piece_line offset p ++ piece_lines end pieces
lines_of p offset end pieces e = ap (λ o. piece_line offset p ++ piece_lines o pieces) e

known_line : (at end : ℕ) (bytes : List ℕ) (pieces : List Piece) → at < end → length bytes ≡ end - at → piece_lines at (join (known bytes) pieces) ≡ piece_line at (known bytes) ++ piece_lines end pieces
known_line at end bytes pieces lt len = grind (arith, length-known, join_known, lines_of)

-- the next piece of the same kind
pub stays : (kind : Kind) (from at end : ℕ) (bytes : List ℕ) (pieces : List Piece) → from ≤ at → at < end → (kind ≡ Bytes → length bytes ≡ end - at)
    → unwritten kind from at (join (piece_of kind (end - at) bytes) pieces) ≡ with_next kind from at end bytes pieces
stays Unknown from at end bytes pieces le lt len = ap (piece_lines from) (join_unknown (at - from) (end - at) (end - from) (omega arith) pieces)
stays Zeroes from at end bytes pieces le lt len = ap (piece_lines from) (join_zeroes (at - from) (end - at) (end - from) (omega arith) pieces)
stays Bytes from at end bytes pieces le lt len = known_line at end bytes pieces lt (len refl)

-- the next piece begins a run
begins : (kind : Kind) (at end : ℕ) (bytes : List ℕ) (pieces : List Piece) → at < end → (kind ≡ Bytes → length bytes ≡ end - at)
    → piece_lines at (join (piece_of kind (end - at) bytes) pieces) ≡ with_next kind at at end bytes pieces
begins Unknown at end bytes pieces lt len = refl
begins Zeroes at end bytes pieces lt len = refl
begins Bytes at end bytes pieces lt len = known_line at end bytes pieces lt (len refl)

unknown_before : (from at : ℕ) (pieces : List Piece) → from ≤ at → piece_lines from (unknown (at - from) ∷ pieces) ≡ piece_line from (unknown (at - from)) ++ piece_lines at pieces
unknown_before from at pieces le = let n = length-unknown (at - from) in lines_of (unknown (at - from)) from at pieces (omega (arith, n, le))

zeroes_before : (from at : ℕ) (pieces : List Piece) → from ≤ at → piece_lines from (zeroes (at - from) ∷ pieces) ≡ piece_line from (zeroes (at - from)) ++ piece_lines at pieces
zeroes_before from at pieces le = let n = length-zeroes (at - from) in lines_of (zeroes (at - from)) from at pieces (omega (arith, n, le))

-- the next piece of another kind
ends : (kind next : Kind) (from at end : ℕ) (bytes : List ℕ) (pieces : List Piece) → (kind ≡ next → ⊥) → from ≤ at
    → unwritten kind from at (join (piece_of next (end - at) bytes) pieces) ≡ run_line kind from (at - from) ++ piece_lines at (join (piece_of next (end - at) bytes) pieces)
ends Unknown Zeroes from at end bytes pieces ne le = ap (piece_lines from) (apart_unknown_zeroes (at - from) (end - at) pieces) ∙ unknown_before from at (join (zeroes (end - at)) pieces) le
ends Unknown Bytes from at end bytes pieces ne le =
    ap (λ l. piece_lines from (join (unknown (at - from)) l)) (join_known bytes pieces) ∙ unknown_before from at (known bytes ∷ pieces) le ∙ ap (λ l. piece_line from (unknown (at - from)) ++ piece_lines at l) (sym (join_known bytes pieces))
ends Zeroes Unknown from at end bytes pieces ne le = ap (piece_lines from) (apart_zeroes_unknown (at - from) (end - at) pieces) ∙ zeroes_before from at (join (unknown (end - at)) pieces) le
ends Zeroes Bytes from at end bytes pieces ne le =
    ap (λ l. piece_lines from (join (zeroes (at - from)) l)) (join_known bytes pieces) ∙ zeroes_before from at (known bytes ∷ pieces) le ∙ ap (λ l. piece_line from (zeroes (at - from)) ++ piece_lines at l) (sym (join_known bytes pieces))
ends kind next from at end bytes pieces ne le = grind arith

pub turns : (kind next : Kind) (from at end : ℕ) (bytes : List ℕ) (pieces : List Piece) → (kind ≡ next → ⊥) → from ≤ at → at < end → (next ≡ Bytes → length bytes ≡ end - at)
    → unwritten kind from at (join (piece_of next (end - at) bytes) pieces) ≡ run_line kind from (at - from) ++ with_next next at at end bytes pieces
turns kind next from at end bytes pieces ne le lt len = grind (arith, ends, begins)

-- behind the last piece
pub at_the_end : (kind : Kind) (from at : ℕ) → unwritten kind from at [] ≡ run_line kind from (at - from)
at_the_end kind from at = grind (arith, append-nil)

-- kinds are the same or not
same_kinds : (kind next : Kind) → (kind ≡ next) ⊎ (kind ≡ next → ⊥)
same_kinds kind next = grind arith

-- the lines that are left
abbrev pub Left : Option (List ℕ) → Option (List ℕ) → (all rest : List ℕ) → Type 0
Left old new all rest = Wrote (λ (bytes : List ℕ). bytes) old new all rest

-- the line of the run before the next piece was written, where that is of another kind
pub run_ended : (old mid new : Option (List ℕ)) (all : List ℕ) (kind next : Kind) (from at end begun : ℕ) (bytes : List ℕ) (lines pieces : List Piece)
    → from ≤ at → at < end → (next ≡ Bytes → length bytes ≡ end - at) → lines ≡ join (piece_of next (end - at) bytes) pieces
    → Left old mid all (unwritten kind from at lines)
    → (kind ≡ next → (begun ≡ from) × Appends mid new []) → ((kind ≡ next → ⊥) → (begun ≡ at) × Appends mid new (run_line kind from (at - from)))
    → (begun ≤ at) × Left old new all (with_next next begun at end bytes pieces)
run_ended old mid new all kind next from at end begun bytes lines pieces le lt len e past same other = elim (same_kinds kind next) [
  | inl is ↦ (let h = same is in
      let text : unwritten kind from at lines ≡ with_next next begun at end bytes pieces =
      ap (λ k. unwritten k from at lines) is ∙ ap (unwritten next from at) e ∙ stays next from at end bytes pieces le lt len ∙ ap (λ b. with_next next b at end bytes pieces) (sym h.0) in
      let begun_is = h.0 in
      (omega (arith, begun_is, le), one_more (λ (bytes : List ℕ). bytes) plainly old mid new all (unwritten kind from at lines) [] (with_next next begun at end bytes pieces) past text h.1))
  | inr ne ↦ (let h = other ne in
      let text : unwritten kind from at lines ≡ run_line kind from (at - from) ++ with_next next begun at end bytes pieces =
      ap (unwritten kind from at) e ∙ turns kind next from at end bytes pieces ne le lt len ∙ ap (λ b. run_line kind from (at - from) ++ with_next next b at end bytes pieces) (sym h.0) in
      let begun_is = h.0 in
      (omega (arith, begun_is), one_more (λ (bytes : List ℕ). bytes) plainly old mid new all (unwritten kind from at lines) (run_line kind from (at - from)) (with_next next begun at end bytes pieces) past text h.1))
]

-- a run's line that was broken off
pub run_broken : (old mid new : Option (List ℕ)) (all : List ℕ) (kind next : Kind) (from at end : ℕ) (bytes : List ℕ) (lines pieces : List Piece)
    → from ≤ at → at < end → (next ≡ Bytes → length bytes ≡ end - at) → lines ≡ join (piece_of next (end - at) bytes) pieces
    → Left old mid all (unwritten kind from at lines) → (kind ≡ next → ⊥) × AppendsPrefix mid new (run_line kind from (at - from)) → AppendsPrefix old new all
run_broken old mid new all kind next from at end bytes lines pieces le lt len e past h =
    broken_off (λ (bytes : List ℕ). bytes) plainly old mid new all (unwritten kind from at lines) (run_line kind from (at - from)) (with_next next at at end bytes pieces) past
    (ap (unwritten kind from at) e ∙ turns kind next from at end bytes pieces h.0 le lt len) h.1

-- what is unwritten behind a piece that is no line of bytes, and behind one that is
pub run_goes_on : (kind : Kind) (begun at end : ℕ) (bytes : List ℕ) (pieces : List Piece) → (kind ≡ Bytes → ⊥) → with_next kind begun at end bytes pieces ≡ unwritten kind begun end pieces
run_goes_on kind begun at end bytes pieces ne = grind arith

pub bytes_follow : (kind : Kind) (begun at end : ℕ) (bytes : List ℕ) (pieces : List Piece) → kind ≡ Bytes → with_next kind begun at end bytes pieces ≡ piece_line at (known bytes) ++ unwritten kind begun end pieces
bytes_follow kind begun at end bytes pieces e = grind arith

-- all of it is the line of the size, and the lines of the pieces from 0 on
pub from_0 : (f : ℕ → Option ℕ) (size : ℕ) → printed (held_from f 0 size) ≡ size_line size ++ unwritten Bytes 0 0 (pieces_from f size 0)
from_0 f size = grind (arith, length-held_from)

-- no piece is left at the size
pub none_left : (f : ℕ → Option ℕ) (size at : ℕ) → size ≤ at → pieces_from f size at ≡ []
unfolding cut held_from
none_left f size at le = (let none : size - at ≡ 0 = omega arith in ap (λ n. joined (cut at (held_from f at n))) none)

-- nothing is left
pub all_written : (old new : Option (List ℕ)) (all : List ℕ) → Left old new all [] → Appends old new all
all_written old new all past = subst (Appends old new) (sym (past.whole ∙ append-nil past.prefix)) past.grown

-- what is known of the bytes below an offset, and of the next ones, is bytes
pub more_bytes : (f : ℕ → Option ℕ) (at end : ℕ) → ((x : ℕ) → 0 ≤ x → x < at → IfSome (f x) (λ b. b < 256)) → ((x : ℕ) → at ≤ x → x < end → IfSome (f x) (λ b. b < 256))
    → (x : ℕ) → 0 ≤ x → x < end → IfSome (f x) (λ b. b < 256)
more_bytes f at end below next x lo hi = grind (arith, cases_lt)

-- as a list
pub are_held : (f : ℕ → Option ℕ) (offset n : ℕ) → ((x : ℕ) → offset ≤ x → x < offset + n → IfSome (f x) (λ b. b < 256)) → AreHeld (held_from f offset n)
unfolding held_from
are_held f offset zero h = tt
are_held f offset (suc n) h = (h offset (omega arith) (omega arith), are_held f (offset + 1) n (λ x lo hi. h x (omega arith) (omega arith)))

-- a byte that is known, one that is 0 and one that is unknown
pub byte_if_known : (o : Option ℕ) (b : ℕ) → o ≡ Some b → b < 256 → IfSome o (λ b. b < 256)
byte_if_known o b e small = grind arith
