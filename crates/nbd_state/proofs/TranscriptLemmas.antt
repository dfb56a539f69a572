-- What a transcript says of one request.
use Rattle.nbd_state.proofs.Common.{◌≡◌, ℕ, zero, suc, ◌-◌, ◌<◌, ◌≤◌, List, ◌∷◌, map, length, length-map, slice_get, slice_index_or, ◌∙◌, ap, refl, arith, Some, asked_at, Exchange, report_of_request}

told_place : (xs : List Exchange) (place : ℕ) (d : Exchange) → place < length xs → Some (report_of_request (slice_index_or xs place d).asked) ≡ slice_get (map (λ (x : Exchange). report_of_request x.asked) xs) place
told_place (x ∷ xs) (suc place) d l = told_place xs place d (omega (arith, l))
told_place xs place d l = grind arith

pub told_at : (xs : List Exchange) (k : ℕ) (x : Exchange) → (k ≡ 0 → ⊥) → k ≤ length (map (λ (x : Exchange). report_of_request x.asked) xs) → x ≡ slice_index_or xs (k - 1) x →
    Some (report_of_request x.asked) ≡ asked_at k (map (λ (x : Exchange). report_of_request x.asked) xs)
told_at xs zero x some l e = absurd (some refl)
told_at xs (suc place) x some l e =
    let same : suc place - 1 ≡ place = omega arith in
    ap (λ (z : Exchange). Some (report_of_request z.asked)) (e ∙ ap (λ p. slice_index_or xs p x) same) ∙ told_place xs place x (omega (arith, l, length-map xs (λ (x : Exchange). report_of_request x.asked)))
