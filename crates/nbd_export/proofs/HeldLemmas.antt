-- What an export holds, as a list.
use Rattle.nbd_export.proofs.Common.{◌≡◌, ℕ, zero, suc, ◌+◌, ◌<◌, ◌≤◌, length, refl, sym, ap, ◌∙◌, arith, Option, Some, None, get_or, slice_get}
use Rattle.std.specs.Prelude.{[], ◌∷◌, ◌++◌}
use Rattle.nbd_export.specs.Held.{Held}
unfoldable use Rattle.nbd_export.specs.Held.{held_from}

pub held_from-same : (f g : ℕ → Option ℕ) (offset n : ℕ) → ((x : ℕ) → offset ≤ x → x < offset + n → f x ≡ g x) → held_from f offset n ≡ held_from g offset n
unfolding held_from
held_from-same f g offset zero h = refl
held_from-same f g offset (suc n) h =
    ap (λ o. o ∷ held_from f (offset + 1) n) (h offset (omega arith) (omega arith))
    ∙ ap (λ l. g offset ∷ l) (held_from-same f g (offset + 1) n (λ x lo hi. h x (omega arith) (omega arith)))

pub length-held_from : (f : ℕ → Option ℕ) (offset n : ℕ) → length (held_from f offset n) ≡ n
unfolding held_from
length-held_from f offset zero = refl
length-held_from f offset (suc n) = let rest = length-held_from f (offset + 1) n in omega (arith, rest)

pub held_from-append : (f : ℕ → Option ℕ) (offset m n : ℕ) → held_from f offset (m + n) ≡ held_from f offset m ++ held_from f (offset + m) n
unfolding held_from
held_from-append f offset zero n = (let a : 0 + n ≡ n = omega arith in let b : offset + 0 ≡ offset = omega arith in ap (held_from f offset) a ∙ ap (λ o. held_from f o n) (sym b))
held_from-append f offset (suc m) n =
    let a : suc m + n ≡ suc (m + n) = omega arith in
    let b : offset + 1 + m ≡ offset + suc m = omega arith in
    ap (held_from f offset) a ∙ ap (λ l. f offset ∷ l) (held_from-append f (offset + 1) m n ∙ ap (λ o. held_from f (offset + 1) m ++ held_from f o n) b)

-- a list that has the bytes at their offsets
pub held_from-list : (f : ℕ → Option ℕ) (offset : ℕ) (l : Held) → ((i : ℕ) → i < length l → f (offset + i) ≡ get_or l i None) → held_from f offset (length l) ≡ l
unfolding held_from
held_from-list f offset [] h = refl
held_from-list f offset (o ∷ l) h =
    let first : f offset ≡ o = (let at : offset + 0 ≡ offset = omega arith in ap f (sym at) ∙ h 0 (omega arith)) in
    ap (λ x. x ∷ held_from f (offset + 1) (length l)) first
    ∙ ap (λ t. o ∷ t) (held_from-list f (offset + 1) l (λ i lt. let at : offset + 1 + i ≡ offset + suc i = omega arith in ap f at ∙ h (suc i) (omega arith)))

-- the byte at a place of the list
pub slice_get-held_from : (f : ℕ → Option ℕ) (offset n i : ℕ) → i < n → slice_get (held_from f offset n) i ≡ Some (f (offset + i))
unfolding held_from
slice_get-held_from f offset zero i lt = absurd (omega (arith, lt))
slice_get-held_from f offset (suc n) zero lt = (let at : offset ≡ offset + 0 = omega arith in ap (λ x. Some (f x)) at)
slice_get-held_from f offset (suc n) (suc i) lt =
    (let at : offset + 1 + i ≡ offset + suc i = omega arith in slice_get-held_from f (offset + 1) n i (omega arith) ∙ ap (λ x. Some (f x)) at)

-- there is none behind its end
pub slice_get-held_from-none : (f : ℕ → Option ℕ) (offset n i : ℕ) → n ≤ i → slice_get (held_from f offset n) i ≡ None
unfolding held_from
slice_get-held_from-none f offset zero i le = refl
slice_get-held_from-none f offset (suc n) zero le = absurd (omega (arith, le))
slice_get-held_from-none f offset (suc n) (suc i) le = slice_get-held_from-none f (offset + 1) n i (omega arith)
