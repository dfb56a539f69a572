-- What ranges tell, and stretches.
use Rattle.nbd_order.proofs.{Common.{◌≡◌, ℕ, zero, suc, ◌+◌, ◌<◌, ◌≤◌, List, [], ◌∷◌, refl, sym, ◌∙◌, ap, Option, Some, None, nat_lt, if◌then◌else◌, arith, drop, take, slice_get, length, cases_lt, inl, inr, lt-ltb}, HereLemmas.{joined_assoc, joined_nothing, nothing_joined}}
use Rattle.std.proofs.lemmas.{Bool.le-ltb, List.take-append-drop}
use Rattle.std.specs.{Prelude.{◌++◌, ◌⊎◌, min}, Option.option_or}
use Rattle.nbd_order.specs.{declared.{here.Here.Here, stretches.Stretch.Stretch, touches.Touch.Touch}, internal.Here.{joined, joined_if, stretch_here, touch_here, touches_here}}

pub touches_append : (ts us : List Touch) (x : ℕ) → touches_here (ts ++ us) x ≡ joined (touches_here ts x) (touches_here us x)
touches_append [] us x = sym (nothing_joined (touches_here us x))
touches_append (t ∷ ts) us x =
    ap (λ h. joined (touch_here t x) h) (touches_append ts us x)
    ∙ sym (joined_assoc (touch_here t x) (touches_here ts x) (touches_here us x))

-- one range more
pub touches_push : (ts : List Touch) (t : Touch) (x : ℕ) → touches_here (ts ++ t ∷ []) x ≡ joined (touches_here ts x) (touch_here t x)
touches_push ts t x = touches_append ts (t ∷ []) x ∙ ap (λ h. joined (touches_here ts x) h) (joined_nothing (touch_here t x))

-- one stretch more
stretch_push : (ps : List Stretch) (p : Stretch) (x : ℕ) → stretch_here (ps ++ p ∷ []) x ≡ option_or (stretch_here ps x) (if nat_lt x p.end then Some p.here else None)
stretch_push [] p x = refl
stretch_push (q ∷ ps) p x = grind (arith, stretch_push ps p x)

-- x lies before the end of the first of the stretches that are left
pub stretch_at : (ps : List Stretch) (i : ℕ) (p : Stretch) (x : ℕ) → slice_get ps i ≡ Some p → x < p.end → stretch_here (drop i ps) x ≡ Some p.here
stretch_at [] i p x at l = absurd (cc)
stretch_at (q ∷ ps) zero p x at l =
    let e : q ≡ p = cc in
    ap (λ (r : Stretch). if nat_lt x r.end then Some r.here else stretch_here ps x) e
    ∙ ap (λ b. if b then Some p.here else stretch_here ps x) (lt-ltb x p.end l)
stretch_at (q ∷ ps) (suc i) p x at l = stretch_at ps i p x at l

-- x lies behind it
pub stretch_past : (ps : List Stretch) (i : ℕ) (p : Stretch) (x : ℕ) → slice_get ps i ≡ Some p → p.end ≤ x → stretch_here (drop i ps) x ≡ stretch_here (drop (suc i) ps) x
stretch_past [] i p x at l = absurd (cc)
stretch_past (q ∷ ps) zero p x at l =
    let e : q.end ≡ p.end = (let same : q ≡ p = cc in ap (λ (r : Stretch). r.end) same) in
    ap (λ b. if b then Some q.here else stretch_here ps x) (le-ltb x q.end (omega arith))
stretch_past (q ∷ ps) (suc i) p x at l = stretch_past ps i p x at l

-- stretches are left out that end at x or before
kept : (ps : List Stretch) (i j end : ℕ) (p : Stretch) → slice_get ps i ≡ Some p → (p.end ≤ end → j ≡ i + 1) → (end < p.end → j ≡ i) → (x : ℕ) → end ≤ x → stretch_here (drop i ps) x ≡ stretch_here (drop j ps) x
kept ps i j end p at passed stayed x l =
    elim (cases_lt end p.end) [
      | inl before ↦ ap (λ n. stretch_here (drop n ps) x) (sym (stayed before))
      | inr behind ↦ stretch_past ps i p x at (omega arith) ∙ ap (λ n. stretch_here (drop n ps) x) (let e = passed behind in let f : suc i ≡ j = omega arith in f)
    ]

-- what two lists of stretches tell together, from the stretches on that come next; `end` is the first end among these
pub merge_more : (ps qs : List Stretch) (i j k l end : ℕ) (p q : Stretch) → slice_get ps i ≡ Some p → slice_get qs j ≡ Some q → end ≡ min p.end q.end
    → (p.end ≤ end → k ≡ i + 1) → (end < p.end → k ≡ i) → (q.end ≤ end → l ≡ j + 1) → (end < q.end → l ≡ j)
    → (x : ℕ) → option_or (if nat_lt x end then Some (joined p.here q.here) else None) (joined_if (stretch_here (drop k ps) x) (stretch_here (drop l qs) x)) ≡ joined_if (stretch_here (drop i ps) x) (stretch_here (drop j qs) x)
merge_more ps qs i j k l end p q atp atq is pp ps' qp qs' x =
    elim (cases_lt x end) [
      | inl before ↦ (let below = lt-ltb x end before in cc (stretch_at ps i p x atp (omega arith), stretch_at qs j q x atq (omega arith)))
      | inr behind ↦ (let above = le-ltb x end behind in cc (kept ps i k end p atp pp ps' x behind, kept qs j l end q atq qp qs' x behind))
    ]

or_or : (a b c : Option Here) → option_or (option_or a b) c ≡ option_or a (option_or b c)
or_or a b c = grind arith

-- the same, behind the stretches so far
pub merge_step : (stretches ps qs : List Stretch) (i j k l end : ℕ) (p q r : Stretch) → slice_get ps i ≡ Some p → slice_get qs j ≡ Some q → end ≡ min p.end q.end
    → (p.end ≤ end → k ≡ i + 1) → (end < p.end → k ≡ i) → (q.end ≤ end → l ≡ j + 1) → (end < q.end → l ≡ j)
    → r.end ≡ end → r.here ≡ joined p.here q.here
    → (x : ℕ) → option_or (stretch_here (stretches ++ r ∷ []) x) (joined_if (stretch_here (drop k ps) x) (stretch_here (drop l qs) x)) ≡ option_or (stretch_here stretches x) (joined_if (stretch_here (drop i ps) x) (stretch_here (drop j qs) x))
merge_step stretches ps qs i j k l end p q r atp atq is pp ps' qp qs' ends tells x =
    ap (λ o. option_or o (joined_if (stretch_here (drop k ps) x) (stretch_here (drop l qs) x)))
    (stretch_push stretches r x ∙ ap (λ n. option_or (stretch_here stretches x) (if nat_lt x n then Some r.here else None)) ends
    ∙ ap (λ h. option_or (stretch_here stretches x) (if nat_lt x end then Some h else None)) tells)
    ∙ or_or (stretch_here stretches x) (if nat_lt x end then Some (joined p.here q.here) else None) (joined_if (stretch_here (drop k ps) x) (stretch_here (drop l qs) x))
    ∙ ap (option_or (stretch_here stretches x)) (merge_more ps qs i j k l end p q atp atq is pp ps' qp qs' x)

pub none_left : (ps : List Stretch) (i x : ℕ) → length ps ≤ i → stretch_here (drop i ps) x ≡ None
none_left [] zero x l = refl
none_left [] (suc i) x l = refl
none_left (p ∷ ps) zero x l = absurd (omega arith)
none_left (p ∷ ps) (suc i) x l = none_left ps i x (omega arith)

nothing_left : (o a b : Option Here) → (a ≡ None) ⊎ (b ≡ None) → option_or o (joined_if a b) ≡ o
nothing_left o a b h = grind arith

-- one of the lists has no stretch left
pub merge_end : (o : Option Here) (ps qs : List Stretch) (i j x : ℕ) → (length ps ≤ i) ⊎ (length qs ≤ j) → option_or o (joined_if (stretch_here (drop i ps) x) (stretch_here (drop j qs) x)) ≡ o
merge_end o ps qs i j x (inl l) = nothing_left o (stretch_here (drop i ps) x) (stretch_here (drop j qs) x) (inl (none_left ps i x l))
merge_end o ps qs i j x (inr l) = nothing_left o (stretch_here (drop i ps) x) (stretch_here (drop j qs) x) (inr (none_left qs j x l))

-- what the two halves tell
pub halves : (ts fs gs : List Touch) (n : ℕ) → fs ≡ take n ts → gs ≡ drop n ts → (x : ℕ) → joined (touches_here fs x) (touches_here gs x) ≡ touches_here ts x
halves ts fs gs n front back x =
    sym (touches_append fs gs x) ∙ ap (λ l. touches_here (l ++ gs) x) front ∙ ap (λ l. touches_here (take n ts ++ l) x) back ∙ ap (λ l. touches_here l x) (take-append-drop n ts)
