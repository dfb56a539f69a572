-- `info_of` gives exactly what has the form of an INFO payload.
use Rattle.nbd_wire.proofs.{Common.{◌≡◌, ◌≢◌, ℕ, ◌≤◌, List, [], ◌++◌, length, drop, Some, nat_le, refl, ◌∙◌, ap, arith, cond_both, cond-false, eqb-true, eqb-false, ne_eqb, not-false, leb-true, le-leb, same_Some, none-some, big_bytes, big_number-reads_back, EXPORT, BLOCK_SIZE, Info, Export, BlockSize, Other, AreBytes, HasInfoForm, number_at, info_of, Reads}, NumberLemmas.number_at-lt}
use Rattle.nbd_wire.proofs.HeadLemmas.{with_known, with_next, with_last}

export-found : (bytes : List ℕ) → AreBytes bytes → number_at 0 2 bytes ≡ EXPORT → length bytes ≡ 12 → HasInfoForm (Export (number_at 2 8 bytes) (number_at 10 2 bytes)) bytes
unfolding HasInfoForm
export-found bytes b k l = (
  omega (arith, number_at-lt 2 8 bytes b),
  omega (arith, number_at-lt 10 2 bytes b),
  with_known 0 2 EXPORT bytes _ b (omega arith) k
      (with_next 2 8 bytes _ b (omega arith)
      (with_last 10 2 bytes b l)),
)

block_size-found : (bytes : List ℕ) → AreBytes bytes → number_at 0 2 bytes ≡ BLOCK_SIZE → length bytes ≡ 14 → HasInfoForm (BlockSize (number_at 2 4 bytes) (number_at 6 4 bytes) (number_at 10 4 bytes)) bytes
unfolding HasInfoForm
block_size-found bytes b k l = (
  omega (arith, number_at-lt 2 4 bytes b),
  omega (arith, number_at-lt 6 4 bytes b),
  omega (arith, number_at-lt 10 4 bytes b),
  with_known 0 2 BLOCK_SIZE bytes _ b (omega arith) k
      (with_next 2 4 bytes _ b (omega arith)
      (with_next 6 4 bytes _ b (omega arith)
      (with_last 10 4 bytes b l))),
)

other-found : (bytes : List ℕ) → AreBytes bytes → 2 ≤ length bytes → number_at 0 2 bytes ≢ EXPORT → number_at 0 2 bytes ≢ BLOCK_SIZE → HasInfoForm (Other (number_at 0 2 bytes)) bytes
unfolding HasInfoForm
other-found bytes b l e s =
    (omega (arith, number_at-lt 0 2 bytes b), e, s, (drop 2 bytes, with_next 0 2 bytes (drop 2 bytes) b (omega arith) refl))

-- what is given has the form
found : (bytes : List ℕ) → AreBytes bytes → (info : Info) → info_of bytes ≡ Some info → HasInfoForm info bytes
unfolding info_of
found bytes b info = grind (arith, none-some, same_Some, cond_both, nat_le, export-found, eqb-true, block_size-found, other-found, leb-true, not-false, eqb-false)

-- what has the form is given
only : (bytes : List ℕ) (info : Info) → HasInfoForm info bytes → info_of bytes ≡ Some info
unfolding info_of HasInfoForm
only bytes (Export size flags) h =
    let cells : List ℕ = big_bytes 2 EXPORT ++ big_bytes 8 size ++ big_bytes 2 flags in
    let s : number_at 2 8 cells ≡ size = big_number-reads_back 8 size (big_bytes 2 flags) (omega (arith, h.0)) in
    let f : number_at 10 2 cells ≡ flags = big_number-reads_back 2 flags [] (omega (arith, h.1)) in
    ap info_of h.2 ∙ ap (λ x. Some (Export x (number_at 10 2 cells))) s ∙ ap (λ x. Some (Export size x)) f
only bytes (BlockSize least preferred most) h =
    let cells : List ℕ = big_bytes 2 BLOCK_SIZE ++ big_bytes 4 least ++ big_bytes 4 preferred ++ big_bytes 4 most in
    let l : number_at 2 4 cells ≡ least = big_number-reads_back 4 least (drop 6 cells) (omega (arith, h.0)) in
    let p : number_at 6 4 cells ≡ preferred = big_number-reads_back 4 preferred (drop 10 cells) (omega (arith, h.1)) in
    let m : number_at 10 4 cells ≡ most = big_number-reads_back 4 most [] (omega (arith, h.2)) in
    ap info_of h.3 ∙ ap (λ x. Some (BlockSize x (number_at 6 4 cells) (number_at 10 4 cells))) l
    ∙ ap (λ x. Some (BlockSize least x (number_at 10 4 cells))) p ∙ ap (λ x. Some (BlockSize least preferred x)) m
only bytes (Other kind) h = grind (arith, cond-false, nat_le, le-leb, ne_eqb)

-- `info_of` gives exactly what has the form
pub info_of-reads : (bytes : List ℕ) → AreBytes bytes → Reads (info_of bytes) (λ info. HasInfoForm info bytes)
info_of-reads bytes b = λ info. (found bytes b info, only bytes info)
