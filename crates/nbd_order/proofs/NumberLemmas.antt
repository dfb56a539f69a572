-- Numbers of a list, one after the other.
use Rattle.nbd_order.proofs.Common.{◌≡◌, ℕ, ◌+◌, ◌<◌, ◌≤◌, inl, inr, List, [], ◌∷◌, length, refl, sym, ◌∙◌, ap, subst, true, false, ◌==◌, get_or, take, arith, eqb-true, or_cases, take_all, list_any_more, has}

-- each of the first i numbers has the property
abbrev pub EachOf : (ℕ → Type 0) → List ℕ → ℕ → Type 0
EachOf P numbers i = (k : ℕ) → has (take i numbers) k ≡ true → P k

none_of_none : (numbers : List ℕ) (k : ℕ) → has (take 0 numbers) k ≡ false
none_of_none [] k = refl
none_of_none (n ∷ numbers) k = refl

pub each_more : (P : ℕ → Type 0) (numbers : List ℕ) (i d : ℕ) → i < length numbers → EachOf P numbers i → P (get_or numbers i d) → EachOf P numbers (i + 1)
each_more P numbers i d l each here k h =
    elim (or_cases (has (take i numbers) k) (get_or numbers i d == k) (sym (list_any_more (λ n. n == k) numbers i d l) ∙ h)) [
      | inl q ↦ each k q
      | inr q ↦ subst P (eqb-true (get_or numbers i d) k q) here
    ]

pub each_all : (P : ℕ → Type 0) (numbers : List ℕ) (i : ℕ) → length numbers ≤ i → EachOf P numbers i → (k : ℕ) → has numbers k ≡ true → P k
each_all P numbers i l each k h = each k (ap (λ ns. has ns k) (take_all i numbers l) ∙ h)

-- the same with the list that a loop goes over
pub each_step : (P : ℕ → Type 0) (numbers items : List ℕ) (i d : ℕ) → items ≡ numbers → i < length items → EachOf P numbers i → P (get_or items i d) → EachOf P numbers (i + 1)
each_step P numbers items i d same l each here = each_more P numbers i d (let e : length items ≡ length numbers = ap length same in omega arith) each
    (subst (λ ns. P (get_or ns i d)) same here)

pub each_of_all : (P : ℕ → Type 0) (numbers items : List ℕ) (i : ℕ) → items ≡ numbers → length items ≤ i → EachOf P numbers i → (k : ℕ) → has numbers k ≡ true → P k
each_of_all P numbers items i same l each = each_all P numbers i (let e : length items ≡ length numbers = ap length same in omega arith) each
