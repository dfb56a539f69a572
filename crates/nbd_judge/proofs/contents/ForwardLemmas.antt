-- The contents taken forward are the bytes looked up backwards.
use Rattle.nbd_judge.proofs.Common.{arith, ◌≡◌, ℕ, List, [], ◌∷◌, ◌++◌, refl, ap, Option, Some, None, if◌then◌else◌, take, Entry, Part, Effect, last_touch, effect_byte, byte_or_start, touches, touch_of, AreSameBelow, Folding, contents_with_effect, contents_after}

one_applied : (p : Option Part) (e : Option Effect) (old : ℕ → Option ℕ) (x : ℕ) → contents_with_effect p e old x ≡ byte_or_start (touch_of p e x) old x
one_applied p None old x = refl
one_applied p (Some e) old x = grind arith

after_left : (requests : ℕ → Option Effect) (es : List Entry) (old : ℕ → Option ℕ) (x : ℕ) → contents_after requests es old x ≡ byte_or_start (last_touch requests x es) old x
after_left requests [] old x = refl
after_left requests (e ∷ es) old x =
    grind (arith, after_left requests es (contents_with_effect e.part (requests e.request) old) x, one_applied e.part (requests e.request) old x)

pub folding : Folding
folding requests order initial i x = after_left requests (take i order) initial x

pub applied_same : (p : Option Part) (e : Option Effect) (size : ℕ) (f g : ℕ → Option ℕ) → AreSameBelow size f g → AreSameBelow size (contents_with_effect p e f) (contents_with_effect p e g)
applied_same p None size f g h x l = h x l
applied_same p (Some e) size f g h x l = ap (λ b. if touches p e x then effect_byte e x else b) (h x l)

pub after_push : (requests : ℕ → Option Effect) (es : List Entry) (e : Entry) (old : ℕ → Option ℕ) → contents_after requests (es ++ e ∷ []) old ≡ contents_with_effect e.part (requests e.request) (contents_after requests es old)
after_push requests [] e old = refl
after_push requests (d ∷ es) e old = after_push requests es e (contents_with_effect d.part (requests d.request) old)
