-- A head that is whole, and the same with more bytes after it.
use Rattle.nbd_session.proofs.Common.{◌≡◌, ℕ, ◌+◌, ◌≤◌, List, ◌++◌, length, drop, subst, Some, None, Bool, true, false, arith, drop-append_seam, number_at, number_at-append, some_if}

-- its fields stand where they stood, with more bytes after it
pub fields_stay : (n : ℕ) (head payload : List ℕ) → length head ≡ n → (p w : ℕ) → p + w ≤ n → number_at p w (head ++ payload) ≡ number_at p w head
fields_stay n head payload len p w fits = number_at-append p w head payload (omega (arith, len, fits))

pub after_head : (n : ℕ) (head payload : List ℕ) → length head ≡ n → drop n (head ++ payload) ≡ payload
after_head n head payload len = subst (λ k. drop k (head ++ payload) ≡ payload) len (drop-append_seam head payload)

-- what was read where the condition holds
pub some_read : {A : Type 0} (b : Bool) (value a : A) → Some a ≡ some_if b value → (b ≡ true) × (a ≡ value)
some_read b value a e = grind arith

pub none_read : {A : Type 0} (b : Bool) (value : A) → None ≡ some_if b value → b ≡ false
none_read b value e = grind arith
