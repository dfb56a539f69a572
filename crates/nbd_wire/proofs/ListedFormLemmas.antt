-- What stands after a length of four bytes, and `is_listed` and `is_go`, which test for it.
use Rattle.nbd_wire.proofs.Common.{◌≡◌, ℕ, ◌+◌, ◌*◌, ◌≤◌, ◌==◌, List, ◌++◌, length, take, drop, Bool, true, nat_le, IsTrue, refl, sym, ◌∙◌, ap, arith, length-drop, length-append, append_assoc, ◌↔◌, take-append_seam, drop-append_seam, eqb-true, eq-eqb, leb-true, le-leb, and_parts, and_from, take-append-drop, length-take-le, big_bytes, AreBytes, HasListedForm, HasGoForm, number_at, is_listed, is_go}
use Rattle.nbd_wire.proofs.{NumberLemmas.{AreBytes-drop, number_at-drop, number_at-lt}, HeadLemmas.with_next}

-- a length that is not too large counts out a name and leaves a rest
pub listed-found : (bytes : List ℕ) → AreBytes bytes → 4 + number_at 0 4 bytes ≤ length bytes → HasListedForm (take (number_at 0 4 bytes) (drop 4 bytes)) (drop (number_at 0 4 bytes) (drop 4 bytes)) bytes
unfolding HasListedForm
listed-found bytes b l = grind (arith, length-take-le, length-drop, number_at-lt, with_next, take-append-drop)

-- a name and a rest after a length are what it counts out
pub record Counted (name rest bytes : List ℕ) : Type 0 where
  pub whole : 4 + length name ≤ length bytes
  pub count : number_at 0 4 bytes ≡ length name
  pub name_is : take (length name) (drop 4 bytes) ≡ name
  pub rest_is : drop (length name) (drop 4 bytes) ≡ rest

pub listed-only : (name rest bytes : List ℕ) → HasListedForm name rest bytes → Counted name rest bytes
unfolding HasListedForm
listed-only name rest bytes h = grind (arith, length-append, take-append_seam, drop-append_seam)

-- only one name and one rest are counted out
pub counted-one : (a x b y bytes : List ℕ) → HasListedForm a x bytes → HasListedForm b y bytes → (a ≡ b) × (x ≡ y)
counted-one a x b y bytes h k = grind (arith, listed-only)

-- the test for a name and a rest
pub is_listed-exact : (bytes : List ℕ) → AreBytes bytes → IsTrue (is_listed bytes) ↔ ((name : List ℕ) × (text : List ℕ) × HasListedForm name text bytes)
unfolding is_listed
is_listed-exact bytes b = grind (arith, nat_le, and_parts, listed-found, leb-true, listed-only, and_from, le-leb)

-- what counts what a client asks for stands after the name
pub go-found : (name rest bytes : List ℕ) (count : ℕ) → AreBytes rest → HasListedForm name rest bytes → count ≡ number_at 0 2 rest → length rest ≡ 2 + 2 * count → HasGoForm name count bytes
unfolding HasGoForm HasListedForm
go-found name rest bytes count b h c l =
    let long : 2 ≤ length rest = omega arith in
    let asked : List ℕ = drop 2 rest in
    let is : rest ≡ big_bytes 2 count ++ asked = with_next 0 2 rest asked b (omega arith) refl ∙ ap (λ k. big_bytes 2 k ++ asked) (sym c) in (
      h.0,
      omega (arith, number_at-lt 0 2 rest b),
      (
        asked,
        omega (arith, length-drop 2 rest),
        h.1 ∙ ap (λ r. big_bytes 4 (length name) ++ name ++ r) is ∙ sym (append_assoc (big_bytes 4 (length name) ++ name) (big_bytes 2 count) asked),
      ),
    )

pub go-only : (name bytes : List ℕ) (count : ℕ) → HasGoForm name count bytes → (rest : List ℕ) × HasListedForm name rest bytes × (number_at 0 2 rest ≡ count) × (length rest ≡ 2 + 2 * count)
unfolding HasGoForm HasListedForm
go-only name bytes count h = grind (arith, append_assoc)

-- the test for the data of INFO and GO
pub is_go-exact : (bytes : List ℕ) → AreBytes bytes → IsTrue (is_go bytes) ↔ ((name : List ℕ) × (count : ℕ) × HasGoForm name count bytes)
unfolding is_go
is_go-exact bytes b =
    let n : ℕ = number_at 0 4 bytes in
    let fits : Bool = nat_le (6 + n) (length bytes) in
    let whole : Bool = length bytes == 6 + n + 2 * number_at (4 + n) 2 bytes in
    let name : List ℕ = take n (drop 4 bytes) in
    let rest : List ℕ = drop n (drop 4 bytes) in (
      λ t. let p : (fits ≡ true) × (whole ≡ true) = and_parts fits whole t in
          let long : 6 + n ≤ length bytes = leb-true (6 + n) (length bytes) p.0 in
          let all : length bytes ≡ 6 + n + 2 * number_at (4 + n) 2 bytes = eqb-true (length bytes) (6 + n + 2 * number_at (4 + n) 2 bytes) p.1 in
          let form : HasListedForm name rest bytes = listed-found bytes b (omega arith) in (
            name,
            number_at 0 2 rest,
            go-found name rest bytes (number_at 0 2 rest) (AreBytes-drop n (drop 4 bytes) (AreBytes-drop 4 bytes b)) form refl
                (omega (arith, all, number_at-drop 4 n 2 bytes, length-drop n (drop 4 bytes), length-drop 4 bytes)),
          ),
      λ (name, count, h).
          let g = go-only name bytes count h in
          let rest : List ℕ = g.0 in
          let c : Counted name rest bytes = listed-only name rest bytes g.1 in
          let counted : number_at (4 + n) 2 bytes ≡ count =
          number_at-drop 4 n 2 bytes ∙ ap (λ k. number_at 0 2 (drop k (drop 4 bytes))) c.count ∙ ap (number_at 0 2) c.rest_is ∙ g.2 in
          let of_rest : length bytes ≡ 4 + length name + length rest =
          omega (arith, c.whole, ap length c.rest_is, length-drop (length name) (drop 4 bytes), length-drop 4 bytes) in
          and_from fits whole (le-leb (6 + n) (length bytes) (omega (arith, of_rest, c.count, g.3)))
          (eq-eqb (length bytes) (6 + n + 2 * number_at (4 + n) 2 bytes) (omega (arith, of_rest, c.count, g.3, counted))),
    )
