-- What a cookie finds once a request or a reply has completed.
use Rattle.nbd_state.proofs.Common.{and_parts, not-true, ◌≡◌, ℕ, zero, suc, ◌+◌, ◌==◌, ◌&&◌, not, List, [], ◌∷◌, ◌++◌, length, refl, ◌∙◌, ap, subst, Some, None, Bool, true, false, if◌then◌else◌, arith, eqb-true, Message, Operation, ends_reply, is_finished, Core, with_reply_at, operation, is_awaiting, target, target_from, IsReached, at_start, after_message, AreDistinct, Free, IsFound, distinct_complete, find, free_at}
use Rattle.nbd_state.proofs.ReplyLemmas.{any-snoc}

pub distinct_reached : {core : Core} → IsReached core → AreDistinct core.entries
distinct_reached at_start = tt
distinct_reached (after_message {c} m r sn ok) = distinct_complete c c.phase m ok (distinct_reached r)

other_snoc : (n q : ℕ) (es : List Operation) (e : Operation) → is_awaiting q e ≡ false → target_from n q (es ++ e ∷ []) ≡ target_from n q es
other_snoc n q [] e h = ap (λ b. if b then Some (suc n) else None) h
other_snoc n q (x ∷ es) e h = ap (λ t. if is_awaiting q x then Some (suc n) else t) (other_snoc (suc n) q es e h)

last_snoc : (n q : ℕ) (es : List Operation) (e : Operation) → is_awaiting q e ≡ true → target_from n q es ≡ None → target_from n q (es ++ e ∷ []) ≡ Some (suc (n + length es))
last_snoc n q [] e h t = ap (λ b. if b then Some (suc n) else None) h ∙ ap (λ j. Some (suc j)) (let z : n ≡ n + length {A = Operation} [] = omega arith in z)
last_snoc n q (x ∷ es) e h t = grind (arith, last_snoc (suc n) q es e h)

-- after one more request, whose cookie no outstanding one had
pub target_requested : (q : ℕ) (es : List Operation) (e : Operation) → e.replies ≡ [] → target e.cookie es ≡ None → target q (es ++ e ∷ []) ≡ (if e.cookie == q then Some (suc (length es)) else target q es)
unfolding target
target_requested q es e r t = grind (arith, eqb-true, last_snoc, other_snoc)

and_false : (b : Bool) → (b && false) ≡ false
and_false b = grind arith

-- a reply that goes on leaves all as it was
going : (n q k : ℕ) (m : Message) (es : List Operation) → ends_reply m ≡ false → target_from n q (with_reply_at k m es) ≡ target_from n q es
going n q k m [] h = refl
going n q zero m (e ∷ es) h = refl
going n q (suc zero) m (e ∷ es) h = grind (arith, any-snoc)
going n q (suc (suc k)) m (e ∷ es) h = ap (λ t. if is_awaiting q e then Some (suc n) else t) (going (suc n) q (suc k) m es h)

-- so does one to a request with another cookie
elsewhere : (n q k : ℕ) (m : Message) (es : List Operation) (e : Operation) → operation k es ≡ Some e → (e.cookie == q) ≡ false → target_from n q (with_reply_at k m es) ≡ target_from n q es
elsewhere n q k m [] e i h = refl
elsewhere n q zero m (x ∷ es) e i h = refl
elsewhere n q (suc zero) m (x ∷ es) e i h = grind arith
elsewhere n q (suc (suc k)) m (x ∷ es) e i h = ap (λ t. if is_awaiting q x then Some (suc n) else t) (elsewhere (suc n) q (suc k) m es e i h)

free_none : (n cookie : ℕ) (es : List Operation) → Free cookie es → target_from n cookie es ≡ None
free_none n cookie [] f = refl
free_none n cookie (x ∷ es) f = ap (λ b. if b then Some (suc n) else target_from (suc n) cookie es) f.0 ∙ free_none (suc n) cookie es f.1

-- one that ends leaves no outstanding request with its cookie
ended : (n cookie k : ℕ) (m : Message) (es : List Operation) (e : Operation) → AreDistinct es → operation k es ≡ Some e → e.cookie ≡ cookie → is_finished e ≡ false → ends_reply m ≡ true → target_from n cookie (with_reply_at k m es) ≡ None
ended n cookie k m [] e d i c u h = refl
ended n cookie zero m (x ∷ es) e d i c u h = absurd (cc)
ended n cookie (suc zero) m (x ∷ es) e d i c u h = grind (arith, any-snoc, and_false, free_none, and_parts, eqb-true, free_at, not-true)
ended n cookie (suc (suc k)) m (x ∷ es) e d i c u h = grind (arith, any-snoc, and_false, free_none, and_parts, eqb-true, free_at, not-true, ended (suc n) cookie (suc k) m es e d.1 i c u h)

-- after a reply to the request with this cookie
pub target_replied : (q cookie k : ℕ) (m : Message) (es : List Operation) → AreDistinct es → target cookie es ≡ Some k → target q (with_reply_at k m es) ≡ (if ends_reply m && (cookie == q) then None else target q es)
unfolding target
target_replied q cookie k m es d t = go (ends_reply m) refl (cookie == q) refl
  where
    f : IsFound cookie k es
    f = find cookie es k t

    w : ((f.found.cookie == cookie) ≡ true) × (not (is_finished f.found) ≡ true)
    w = and_parts (f.found.cookie == cookie) (not (is_finished f.found)) f.waits

    same : f.found.cookie ≡ cookie
    same = eqb-true f.found.cookie cookie w.0

    go : (b : Bool) → ends_reply m ≡ b → (c : Bool) → (cookie == q) ≡ c → target_from 0 q (with_reply_at k m es) ≡ (if b && c then None else target_from 0 q es)
    go false h c g = going 0 q k m es h
    go true h true g = subst (λ j. target_from 0 j (with_reply_at k m es) ≡ None) (eqb-true cookie q g) (ended 0 cookie k m es f.found d f.numbered same (not-true (is_finished f.found) w.1) h)
    go true h false g = elsewhere 0 q k m es f.found f.numbered (ap (λ j. j == q) same ∙ g)
