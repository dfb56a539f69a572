-- What `content_of` and `failure_of` of the specification give, from what the readers saw.
use Rattle.nbd_wire.proofs.Common.{◌≡◌, ℕ, ◌+◌, ◌<◌, ◌≤◌, List, length, drop, Option, Some, None, nat_le, sym, arith, subst, get_or, cond_both, cond-true, cond-false, eqb-true, eqb-false, eq-eqb, ne_eqb, not-true, leb-true, le-leb, lt-leb, and_parts, and_from, and_left, option_map, OFFSET_DATA, OFFSET_HOLE, ERROR, ERROR_OFFSET, Piece, Bytes, Hole, Failure, HasContentForm, HasFailureForm, number_at, content_of, failure_of, Reads, ReadsAs}
use Rattle.nbd_wire.proofs.{ChunkFormLemmas.{content_of-reads, failure_of-reads}, NumberLemmas.AreBytes-from_places}

pub data-short : (bytes : List ℕ) → length bytes ≤ 8 → None ≡ content_of OFFSET_DATA bytes
unfolding content_of
data-short bytes l = sym (cond-false (nat_le 9 (length bytes)) _ _ (lt-leb 9 (length bytes) (omega arith)))

pub data-whole : (bytes rest : List ℕ) (offset : ℕ) → 8 < length bytes → offset ≡ number_at 0 8 bytes → rest ≡ drop 8 bytes → Some (Bytes offset rest) ≡ content_of OFFSET_DATA bytes
unfolding content_of
data-whole bytes rest offset l o r = grind (arith, cond-true, nat_le, le-leb)

pub hole-none : (bytes : List ℕ) → (length bytes ≡ 12 → (number_at 8 4 bytes ≡ 0 → ⊥) → ⊥) → None ≡ content_of OFFSET_HOLE bytes
unfolding content_of
hole-none bytes no_hole = grind (arith, cond_both, and_parts, eqb-true, eqb-false, not-true)

pub hole-whole : (bytes : List ℕ) (offset size : ℕ) → length bytes ≡ 12 → size ≡ number_at 8 4 bytes → (size ≡ 0 → ⊥) → offset ≡ number_at 0 8 bytes → Some (Hole offset size) ≡ content_of OFFSET_HOLE bytes
unfolding content_of
hole-whole bytes offset size l s nonzero o = grind (arith, ne_eqb, cond-true, and_from, eq-eqb)

-- of another type
pub content-none : (kind : ℕ) (bytes : List ℕ) → (kind ≡ OFFSET_DATA → ⊥) → (kind ≡ OFFSET_HOLE → ⊥) → None ≡ content_of kind bytes
unfolding content_of
content-none kind bytes d h = grind (arith, cond-false, ne_eqb, and_left)

-- what the specification gives has exactly the form
pub content-form : {R : Type 0} (seen : R → Piece) (kind : ℕ) (bytes : List ℕ) → ((k : ℕ) → get_or bytes k 0 < 256) → (answer : Option R) → option_map seen answer ≡ content_of kind bytes → ReadsAs seen answer (λ piece. HasContentForm kind piece bytes)
content-form seen kind bytes fits answer same = subst (λ a. Reads a (λ piece. HasContentForm kind piece bytes)) (sym same) (content_of-reads kind bytes (AreBytes-from_places bytes fits))

-- neither form of an error chunk
pub failure-none : (kind : ℕ) (bytes : List ℕ) → ((number_at 0 4 bytes ≡ 0 → ⊥) → kind ≡ ERROR → 6 + number_at 4 2 bytes ≤ length bytes → ⊥) → ((number_at 0 4 bytes ≡ 0 → ⊥) → kind ≡ ERROR_OFFSET → 14 + number_at 4 2 bytes ≤ length bytes → ⊥) → None ≡ failure_of kind bytes
unfolding failure_of
failure-none kind bytes no_plain no_placed = grind (arith, cond_both, nat_le, and_parts, eqb-false, eqb-true, leb-true)

pub failure-plain : (kind error : ℕ) (bytes : List ℕ) → kind ≡ ERROR → error ≡ number_at 0 4 bytes → (error ≡ 0 → ⊥) → 6 + number_at 4 2 bytes ≤ length bytes → Some (record { error = error; offset = None }) ≡ failure_of kind bytes
unfolding failure_of
failure-plain kind error bytes k e nonzero l = grind (arith, cond-false, ne_eqb, cond-true, nat_le, and_from, eq-eqb, le-leb)

pub failure-placed : (kind error offset : ℕ) (bytes : List ℕ) → kind ≡ ERROR_OFFSET → error ≡ number_at 0 4 bytes → (error ≡ 0 → ⊥) → 14 + number_at 4 2 bytes ≤ length bytes → offset ≡ number_at (6 + number_at 4 2 bytes) 8 bytes → Some (record { error = error; offset = Some offset }) ≡ failure_of kind bytes
unfolding failure_of
failure-placed kind error offset bytes k e nonzero l o = grind (arith, cond-false, ne_eqb, nat_le, and_left, cond-true, and_from, eq-eqb, le-leb)

-- what the specification gives has exactly the form
pub failure-form : (kind : ℕ) (bytes : List ℕ) → ((k : ℕ) → get_or bytes k 0 < 256) → (answer : Option Failure) → answer ≡ failure_of kind bytes → Reads answer (λ failure. HasFailureForm kind failure bytes)
failure-form kind bytes fits answer same = subst (λ a. Reads a (λ failure. HasFailureForm kind failure bytes)) (sym same) (failure_of-reads kind bytes (AreBytes-from_places bytes fits))
