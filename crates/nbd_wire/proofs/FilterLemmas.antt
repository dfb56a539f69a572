-- A filter's payload: `filter_of` gives exactly what has the form.
use Rattle.nbd_wire.proofs.Common.{◌≡◌, ℕ, zero, suc, ◌*◌, ◌/◌, ◌%◌, ◌<◌, ◌≤◌, ◌^◌, ◌||◌, List, [], ◌∷◌, ◌++◌, length, drop, not, Option, Some, None, Bool, nat_le, if◌then◌else◌, refl, sym, ◌∙◌, ap, arith, length-drop, subst, All, option_map, eqb-false, eqb-true, leb-false, leb-true, All-cons, All-head, All-nil, All-tail, none-some, same_Some, big_bytes, big_number-reads_back, AreBytes, Filter, HasFilterForm, with_ids, filter_of, ids_in, ids_of, number_at, ReadsAs}
use Rattle.nbd_wire.proofs.{HeadLemmas.with_next, NumberLemmas.{AreBytes-drop, number_at-lt}}

-- bytes that are too short hold no id, others the first and those behind it
pub ids-none : (bytes : List ℕ) → length bytes < 4 → ids_of bytes ≡ []
ids-none bytes l = ap (λ n. ids_in n bytes) (let none : length bytes / 4 ≡ 0 = omega (arith, l) in none)

pub ids-first : (bytes : List ℕ) → 4 ≤ length bytes → ids_of bytes ≡ number_at 0 4 bytes ∷ ids_of (drop 4 bytes)
ids-first bytes l = grind (arith, length-drop)

abbrev Low : ℕ → Type 0
Low id = id < 2 ^ 32

no_bytes : (bytes : List ℕ) → length bytes ≡ 0 → bytes ≡ []
no_bytes [] e = refl
no_bytes (x ∷ bytes) e = absurd (cc)

ids-low : (n : ℕ) (bytes : List ℕ) → AreBytes bytes → All Low (ids_in n bytes)
ids-low zero bytes b = All-nil Low
ids-low (suc n) bytes b =
    All-cons Low (number_at 0 4 bytes) (ids_in n (drop 4 bytes)) (omega (arith, number_at-lt 0 4 bytes b)) (ids-low n (drop 4 bytes) (AreBytes-drop 4 bytes b))

-- whole ids are the bytes that they are read from, and are read back from their bytes
ids-bytes : (n : ℕ) (bytes : List ℕ) → AreBytes bytes → length bytes ≡ 4 * n → bytes ≡ with_ids (ids_in n bytes)
ids-bytes zero bytes b e = no_bytes bytes (omega (arith, e))
ids-bytes (suc n) bytes b e = grind (arith, with_next, length-drop, ids-bytes n (drop 4 bytes) (AreBytes-drop 4 bytes b))

ids-only : (ids : List ℕ) → All Low ids → ids_in (length ids) (with_ids ids) ≡ ids
ids-only [] f = refl
ids-only (id ∷ ids) f =
    let first : number_at 0 4 (big_bytes 4 id ++ with_ids ids) ≡ id = big_number-reads_back 4 id (with_ids ids) (let h = All-head Low id ids f in omega (arith, h)) in
    let later : ids_in (length ids) (with_ids ids) ≡ ids = ids-only ids (All-tail Low id ids f) in
    (λ i. first i ∷ later i)

ids-length : (ids : List ℕ) → length (with_ids ids) ≡ 4 * length ids
ids-length [] = refl
ids-length (id ∷ ids) = let e = ids-length ids in omega (arith, e)

-- what is read of a payload that has the form
abbrev pub seen_in : List ℕ → Filter
seen_in bytes = record { length = number_at 0 8 bytes; ids = ids_of (drop 8 bytes) }

-- the two tests of a payload
abbrev pub IsWhole : List ℕ → Type 0
IsWhole bytes = (8 ≤ length bytes) × (length (drop 8 bytes) % 4 ≡ 0)

filter-found : (bytes : List ℕ) → AreBytes bytes → IsWhole bytes → HasFilterForm (seen_in bytes) bytes
unfolding HasFilterForm
filter-found bytes b w = grind (arith, number_at-lt, ids-low, with_next, ids-bytes)

filter-only : (filter : Filter) (bytes : List ℕ) → HasFilterForm filter bytes → IsWhole bytes × (seen_in bytes ≡ filter)
unfolding HasFilterForm
filter-only filter bytes h =
    let ids : List ℕ = filter.ids in
    let size : length (with_ids ids) ≡ 4 * length ids = ids-length ids in
    let count : length (with_ids ids) / 4 ≡ length ids = omega (arith, size) in
    let read : ids_of (with_ids ids) ≡ ids = ap (λ n. ids_in n (with_ids ids)) count ∙ ids-only ids h.1 in
    subst (λ l. IsWhole l × (seen_in l ≡ filter)) (sym h.2) (
      (omega arith, omega (arith, size)),
      (λ i. record { length = big_number-reads_back 8 filter.length (with_ids ids) (omega (arith, h.0)) i; ids = read i }),
    )

-- what is read of a whole payload, and of another one
pub data Told (bytes : List ℕ) : Type 0 where
  whole : IsWhole bytes → filter_of bytes ≡ Some (seen_in bytes) → Told bytes
  broken : (IsWhole bytes → ⊥) → filter_of bytes ≡ None → Told bytes

abbrev answer : (long even : Bool) → List ℕ → Option Filter
answer long even bytes = if not long || not even then None else Some (seen_in bytes)

filter-told : (bytes : List ℕ) → Told bytes
unfolding filter_of
filter-told bytes = grind (arith, nat_le, leb-false, eqb-false, leb-true, eqb-true)

-- the payload has the form of this filter
abbrev pub Says : List ℕ → Filter → Type 0
Says bytes filter = HasFilterForm filter bytes

-- an answer that gives the filter that is read
pub filter-reads : {R : Type 0} (seen : R → Filter) (answer : Option R) (bytes : List ℕ) → AreBytes bytes → option_map seen answer ≡ filter_of bytes → ReadsAs seen answer (Says bytes)
filter-reads seen answer bytes b e = grind (arith, filter-told, filter-only, none-some, same_Some, filter-found)

pub filter-none : (bytes : List ℕ) → (IsWhole bytes → ⊥) → filter_of bytes ≡ None
filter-none bytes n = grind (arith, filter-told)

pub filter-some : (bytes : List ℕ) → IsWhole bytes → filter_of bytes ≡ Some (seen_in bytes)
filter-some bytes w = grind (arith, filter-told)
