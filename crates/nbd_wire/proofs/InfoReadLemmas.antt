-- What `info_of` of the specification gives, from what the reader saw.
use Rattle.nbd_wire.proofs.{Common.{arith, ◌≡◌, ℕ, ◌<◌, ◌≤◌, List, length, Option, Some, None, false, not, nat_le, sym, ap, subst, get_or, cond-true, cond-false, eq-eqb, ne_eqb, le-leb, lt-leb, EXPORT, BLOCK_SIZE, Info, Export, BlockSize, Other, HasInfoForm, number_at, info_of, Reads}, InfoFormLemmas.info_of-reads, NumberLemmas.AreBytes-from_places}

pub info-short : (bytes : List ℕ) → length bytes < 2 → None ≡ info_of bytes
unfolding info_of
info-short bytes l = sym (cond-true (not (nat_le 2 (length bytes))) _ _ (ap not (lt-leb 2 (length bytes) l)))

-- past the first test
behind : (bytes : List ℕ) (info : Option Info) → 2 ≤ length bytes → (not (nat_le 2 (length bytes)) ≡ false → info_of bytes ≡ info) → info ≡ info_of bytes
behind bytes info l then_is = sym (then_is (ap not (le-leb 2 (length bytes) l)))

pub info-export : (bytes : List ℕ) (kind size flags : ℕ) → 2 ≤ length bytes → kind ≡ number_at 0 2 bytes → kind ≡ EXPORT → length bytes ≡ 12 → size ≡ number_at 2 8 bytes → flags ≡ number_at 10 2 bytes → Some (Export size flags) ≡ info_of bytes
unfolding info_of
info-export bytes kind size flags l k e w s f = grind (arith, behind, cond-false, nat_le, cond-true, eq-eqb)

pub info-no_export : (bytes : List ℕ) (kind : ℕ) → 2 ≤ length bytes → kind ≡ number_at 0 2 bytes → kind ≡ EXPORT → (length bytes ≡ 12 → ⊥) → None ≡ info_of bytes
unfolding info_of
info-no_export bytes kind l k e w = grind (arith, behind, cond-false, nat_le, cond-true, eq-eqb, ne_eqb)

pub info-sizes : (bytes : List ℕ) (kind least preferred most : ℕ) → 2 ≤ length bytes → kind ≡ number_at 0 2 bytes → kind ≡ BLOCK_SIZE → length bytes ≡ 14 → least ≡ number_at 2 4 bytes → preferred ≡ number_at 6 4 bytes → most ≡ number_at 10 4 bytes → Some (BlockSize least preferred most) ≡ info_of bytes
unfolding info_of
info-sizes bytes kind least preferred most l k e w s f m = grind (arith, behind, cond-false, nat_le, cond-true, eq-eqb)

pub info-no_sizes : (bytes : List ℕ) (kind : ℕ) → 2 ≤ length bytes → kind ≡ number_at 0 2 bytes → kind ≡ BLOCK_SIZE → (length bytes ≡ 14 → ⊥) → None ≡ info_of bytes
unfolding info_of
info-no_sizes bytes kind l k e w = grind (arith, behind, cond-false, nat_le, cond-true, eq-eqb, ne_eqb)

pub info-other : (bytes : List ℕ) (kind : ℕ) → 2 ≤ length bytes → kind ≡ number_at 0 2 bytes → (kind ≡ EXPORT → ⊥) → (kind ≡ BLOCK_SIZE → ⊥) → Some (Other kind) ≡ info_of bytes
unfolding info_of
info-other bytes kind l k e w = grind (arith, behind, cond-false, nat_le, ne_eqb)

-- what the specification gives has exactly the form
pub info-form : (bytes : List ℕ) → ((k : ℕ) → get_or bytes k 0 < 256) → (answer : Option Info) → answer ≡ info_of bytes → Reads answer (λ info. HasInfoForm info bytes)
info-form bytes fits answer same = subst (λ a. Reads a (λ info. HasInfoForm info bytes)) (sym same) (info_of-reads bytes (AreBytes-from_places bytes fits))
