-- `content_of` and `failure_of` give exactly what has the form of a chunk's payload.
use Rattle.nbd_wire.proofs.Common.{◌≡◌, ℕ, ◌+◌, ◌<◌, ◌≤◌, ◌^◌, ◌==◌, List, [], ◌++◌, length, take, drop, Option, Some, None, true, false, not, nat_le, ◌&&◌, refl, sym, ◌∙◌, ap, arith, length-drop, length-append, subst, drop-append_seam, cond_both, cond-true, cond-false, eqb-true, eqb-false, ne_eqb, not-true, leb-true, le-leb, and_parts, take-append-drop, length-take-le, same_Some, none-some, big_bytes, big_number-reads_back, OFFSET_DATA, OFFSET_HOLE, ERROR_OFFSET, Piece, Bytes, Hole, Failure, AreBytes, HasContentForm, HasFailureForm, GoesOn, number_at, content_of, failure_of, Reads}
use Rattle.nbd_wire.proofs.{NumberLemmas.{AreBytes-drop, number_at-drop, number_at-lt}, HeadLemmas.{with_next, with_last}}

above_zero : (n : ℕ) → (n ≡ 0 → ⊥) → 0 < n
above_zero n h = omega arith

data-found : (bytes : List ℕ) → AreBytes bytes → 9 ≤ length bytes → HasContentForm OFFSET_DATA (Bytes (number_at 0 8 bytes) (drop 8 bytes)) bytes
unfolding HasContentForm
data-found bytes b l =
    (refl, omega (arith, number_at-lt 0 8 bytes b), omega (arith, length-drop 8 bytes), with_next 0 8 bytes (drop 8 bytes) b (omega arith) refl)

hole-found : (bytes : List ℕ) → AreBytes bytes → length bytes ≡ 12 → (number_at 8 4 bytes ≡ 0 → ⊥) → HasContentForm OFFSET_HOLE (Hole (number_at 0 8 bytes) (number_at 8 4 bytes)) bytes
unfolding HasContentForm
hole-found bytes b l s =
    let size : ℕ = number_at 8 4 bytes in
    let above : 0 < size = above_zero size s in (
      refl,
      omega (arith, number_at-lt 0 8 bytes b),
      above,
      omega (arith, number_at-lt 8 4 bytes b),
      with_next 0 8 bytes _ b (omega arith) (with_last 8 4 bytes b l),
    )

content-found : (kind : ℕ) (bytes : List ℕ) → AreBytes bytes → (piece : Piece) → content_of kind bytes ≡ Some piece → HasContentForm kind piece bytes
unfolding content_of
content-found kind bytes b piece =
    let Gives : Option Piece → Type 0 = λ given. given ≡ Some piece → HasContentForm kind piece bytes in
    let nothing : Gives None = λ same. absurd (none-some piece same) in
    let something : (k : ℕ) → kind ≡ k → (given : Piece) → HasContentForm k given bytes → Gives (Some given) =
    λ k e given form same. subst (λ i. HasContentForm kind i bytes) (same_Some given piece same) (subst (λ n. HasContentForm n given bytes) (sym e) form) in
    let size : ℕ = number_at 8 4 bytes in
    cond_both (kind == 1) _ _ Gives
    (λ is_data. cond_both (nat_le 9 (length bytes)) _ _ Gives
    (λ long. something 1 (eqb-true kind 1 is_data) _ (data-found bytes b (leb-true 9 (length bytes) long)))
    (λ short. nothing))
    (λ no_data. cond_both ((kind == 2) && ((length bytes == 12) && not (size == 0))) _ _ Gives
    (λ is_hole.
    let p : ((kind == 2) ≡ true) × (((length bytes == 12) && not (size == 0)) ≡ true) = and_parts (kind == 2) ((length bytes == 12) && not (size == 0)) is_hole in
    let q : ((length bytes == 12) ≡ true) × (not (size == 0) ≡ true) = and_parts (length bytes == 12) (not (size == 0)) p.1 in
    something 2 (eqb-true kind 2 p.0) _ (hole-found bytes b (eqb-true (length bytes) 12 q.0) (eqb-false size 0 (not-true (size == 0) q.1))))
    (λ none. nothing))

content-only : (kind : ℕ) (bytes : List ℕ) (piece : Piece) → HasContentForm kind piece bytes → content_of kind bytes ≡ Some piece
unfolding content_of HasContentForm
content-only kind bytes (Bytes offset rest) h = grind (arith, cond-true, nat_le, le-leb)
content-only kind bytes (Hole offset size) h =
    let cells : List ℕ = big_bytes 8 offset ++ big_bytes 4 size in
    let o : number_at 0 8 cells ≡ offset = big_number-reads_back 8 offset (big_bytes 4 size) (omega (arith, h.1)) in
    let s : number_at 8 4 cells ≡ size = big_number-reads_back 4 size [] (omega (arith, h.3)) in
    let some : (number_at 8 4 cells == 0) ≡ false = ne_eqb (number_at 8 4 cells) 0 (λ e. absurd (omega (arith, h.2, s, e))) in
    ap (λ k. content_of k bytes) h.0 ∙ ap (content_of OFFSET_HOLE) h.4
    ∙ cond-true (not (number_at 8 4 cells == 0)) _ _ (ap not some)
    ∙ ap (λ x. Some (Hole x (number_at 8 4 cells))) o ∙ ap (λ x. Some (Hole offset x)) s

-- `content_of` gives exactly what has the form
pub content_of-reads : (kind : ℕ) (bytes : List ℕ) → AreBytes bytes → Reads (content_of kind bytes) (λ piece. HasContentForm kind piece bytes)
content_of-reads kind bytes b = λ piece. (content-found kind bytes b piece, content-only kind bytes piece)

-- the bytes of an error, a message after its length, and a rest
abbrev failure_bytes : ℕ → List ℕ → List ℕ → List ℕ
failure_bytes error message rest = big_bytes 4 error ++ big_bytes 2 (length message) ++ message ++ rest

error-found : (kind : ℕ) (offset : Option ℕ) (bytes : List ℕ) → AreBytes bytes → (number_at 0 4 bytes ≡ 0 → ⊥) → 6 + number_at 4 2 bytes ≤ length bytes
    → GoesOn kind offset (drop (number_at 4 2 bytes) (drop 6 bytes)) → HasFailureForm kind (record { error = number_at 0 4 bytes; offset = offset }) bytes
unfolding HasFailureForm
error-found kind offset bytes b e l more =
    let t : ℕ = number_at 4 2 bytes in
    let error : ℕ = number_at 0 4 bytes in
    let message : List ℕ = take t (drop 6 bytes) in
    let rest : List ℕ = drop t (drop 6 bytes) in
    let is : length message ≡ t = length-take-le t (drop 6 bytes) (omega (arith, l, length-drop 6 bytes)) in
    let fits : length message < 2 ^ 16 = omega (arith, is, number_at-lt 4 2 bytes b) in
    let begins : drop 4 bytes ≡ big_bytes 2 t ++ (message ++ rest) = with_next 4 2 bytes (message ++ rest) b (omega (arith, l)) (sym (take-append-drop t (drop 6 bytes))) in
    let all : bytes ≡ big_bytes 4 error ++ (big_bytes 2 t ++ (message ++ rest)) = with_next 0 4 bytes (big_bytes 2 t ++ (message ++ rest)) b (omega (arith, l)) begins in (
      above_zero error e,
      omega (arith, number_at-lt 0 4 bytes b),
      (message, rest, fits, more, all ∙ ap (λ k. big_bytes 4 error ++ (big_bytes 2 k ++ (message ++ rest))) (sym is)),
    )

failure-found : (kind : ℕ) (bytes : List ℕ) → AreBytes bytes → (failure : Failure) → failure_of kind bytes ≡ Some failure → HasFailureForm kind failure bytes
unfolding failure_of
failure-found kind bytes b failure =
    let Gives : Option Failure → Type 0 = λ given. given ≡ Some failure → HasFailureForm kind failure bytes in
    let nothing : Gives None = λ same. absurd (none-some failure same) in
    let something : (given : Failure) → HasFailureForm kind given bytes → Gives (Some given) =
    λ given form same. subst (λ i. HasFailureForm kind i bytes) (same_Some given failure same) form in
    let e : ℕ = number_at 0 4 bytes in
    let t : ℕ = number_at 4 2 bytes in
    let rest : List ℕ = drop t (drop 6 bytes) in
    cond_both (e == 0) _ _ Gives (λ zero. nothing)
    (λ nonzero. cond_both ((kind == 0x8001) && nat_le (6 + t) (length bytes)) _ _ Gives
    (λ plain.
    let p : ((kind == 0x8001) ≡ true) × (nat_le (6 + t) (length bytes) ≡ true) = and_parts (kind == 0x8001) (nat_le (6 + t) (length bytes)) plain in
    something _ (error-found kind None bytes b (eqb-false e 0 nonzero) (leb-true (6 + t) (length bytes) p.1) (eqb-true kind 0x8001 p.0)))
    (λ no_plain. cond_both ((kind == 0x8002) && nat_le (14 + t) (length bytes)) _ _ Gives
    (λ placed.
    let p : ((kind == 0x8002) ≡ true) × (nat_le (14 + t) (length bytes) ≡ true) = and_parts (kind == 0x8002) (nat_le (14 + t) (length bytes)) placed in
    let long : 14 + t ≤ length bytes = leb-true (14 + t) (length bytes) p.1 in
    let r : AreBytes rest = AreBytes-drop t (drop 6 bytes) (AreBytes-drop 6 bytes b) in
    let o : ℕ = number_at 0 8 rest in
    let same : number_at (6 + t) 8 bytes ≡ o = number_at-drop 6 t 8 bytes in
    let fits : number_at (6 + t) 8 bytes < 2 ^ 64 = omega (arith, number_at-lt (6 + t) 8 bytes b) in
    let behind : rest ≡ big_bytes 8 (number_at (6 + t) 8 bytes) ++ drop 8 rest =
    with_next 0 8 rest (drop 8 rest) r (omega (arith, long, length-drop t (drop 6 bytes), length-drop 6 bytes)) refl ∙ ap (λ k. big_bytes 8 k ++ drop 8 rest) (sym same) in
    something _ (error-found kind (Some (number_at (6 + t) 8 bytes)) bytes b (eqb-false e 0 nonzero) (omega (arith, long)) (eqb-true kind 0x8002 p.0, fits, (drop 8 rest, behind))))
    (λ none. nothing)))

failure-only : (kind error : ℕ) (offset : Option ℕ) (message rest bytes : List ℕ) → 0 < error → error < 2 ^ 32 → length message < 2 ^ 16 → GoesOn kind offset rest
    → bytes ≡ failure_bytes error message rest → failure_of kind bytes ≡ Some (record { error = error; offset = offset })
unfolding failure_of
failure-only kind error None message rest bytes above below fits goes same = grind (arith, ne_eqb, length-append, cond-false, cond-true, nat_le, le-leb)
failure-only kind error (Some offset) message rest bytes above below fits goes same =
    let cells : List ℕ = failure_bytes error message rest in
    let more : List ℕ = goes.2.0 in
    let e : number_at 0 4 cells ≡ error = big_number-reads_back 4 error (drop 4 cells) (omega (arith, below)) in
    let t : number_at 4 2 cells ≡ length message = big_number-reads_back 2 (length message) (message ++ rest) (omega (arith, fits)) in
    let some : (number_at 0 4 cells == 0) ≡ false = ne_eqb (number_at 0 4 cells) 0 (λ z. absurd (omega (arith, above, e, z))) in
    let behind : length rest ≡ 8 + length more = omega (arith, ap length goes.2.1) in
    let long : 14 + number_at 4 2 cells ≤ length cells = omega (arith, t, length-append message rest, behind) in
    let o : number_at (6 + number_at 4 2 cells) 8 cells ≡ offset =
    number_at-drop 6 (number_at 4 2 cells) 8 cells ∙ ap (λ k. number_at 0 8 (drop k (message ++ rest))) t ∙ ap (number_at 0 8) (drop-append_seam message rest)
    ∙ ap (number_at 0 8) goes.2.1 ∙ big_number-reads_back 8 offset more (omega (arith, goes.1)) in
    ap (λ k. failure_of k bytes) goes.0 ∙ ap (failure_of ERROR_OFFSET) same
    ∙ cond-false (number_at 0 4 cells == 0) _ _ some
    ∙ cond-true (nat_le (14 + number_at 4 2 cells) (length cells)) _ _ (le-leb (14 + number_at 4 2 cells) (length cells) long)
    ∙ ap (λ x. Some (record { error = x; offset = Some (number_at (6 + number_at 4 2 cells) 8 cells) })) e
    ∙ ap (λ x. Some (record { error = error; offset = Some x })) o

-- `failure_of` gives exactly what has the form
pub failure_of-reads : (kind : ℕ) (bytes : List ℕ) → AreBytes bytes → Reads (failure_of kind bytes) (λ failure. HasFailureForm kind failure bytes)
unfolding HasFailureForm
failure_of-reads kind bytes b = λ failure. (
  failure-found kind bytes b failure,
  λ h. failure-only kind failure.error failure.offset h.2.0 h.2.1 bytes h.0 h.1 h.2.2 h.2.3 h.2.4,
)
