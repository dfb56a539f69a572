-- What was read at an index, and least numbers.
use Rattle.nbd_judge.proofs.Common.{◌≡◌, ℕ, suc, ◌<◌, ◌≤◌, inl, inr, List, ◌∷◌, length, refl, sym, ◌∙◌, Some, None, arith, get_or, slice_get, take, slice_get_cases, slice_get_read, Entry, Names, IsFirst}

-- what was read at an index
pub read_at : {A : Type 0} (xs : List A) (i : ℕ) (x : A) → i < length xs → x ≡ get_or xs i x → slice_get xs i ≡ Some x
read_at xs i x h e = slice_get_read xs (length xs) i x refl h e

-- where nothing stands, a list is over
pub past : {A : Type 0} (xs : List A) (i : ℕ) → slice_get xs i ≡ None → length xs ≤ i
past xs i e = elim (slice_get_cases xs i).1 [ inl s ↦ absurd (let q : None ≡ Some s.0 = sym e ∙ s.2 in (cc)) | inr p ↦ p.0 ]

pub one_first : (P : ℕ → Type 0) (m n : ℕ) → IsFirst P m → IsFirst P n → m ≡ n
one_first P m n p q = (let a : m < n → ⊥ = λ l. q.1 m l p.0 in let b : n < m → ⊥ = λ l. p.1 n l q.0 in omega arith)

pub first_of : {P Q : ℕ → Type 0} (n : ℕ) → ((m : ℕ) → P m → Q m) → ((m : ℕ) → Q m → P m) → IsFirst P n → IsFirst Q n
first_of {P} {Q} n to back f = (to n f.0, λ m l q. f.1 m l (back m q))

-- an entry before entry i that names a request
pub place_before : (i : ℕ) (order : List Entry) (k : ℕ) → Names (take i order) k → (j : ℕ) × (e : Entry) × (j < i) × (slice_get order j ≡ Some e) × (e.request ≡ k)
place_before (suc i) (e ∷ order) k (inl q) = (0, e, omega arith, refl, q)
place_before (suc i) (e ∷ order) k (inr h) = (let p = place_before i order k h in let l : p.0 < i = p.2 in (suc p.0, p.1, omega arith, p.3, p.4))
place_before i order k h = absurd h
