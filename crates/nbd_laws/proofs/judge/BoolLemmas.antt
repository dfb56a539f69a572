-- Tests, and what their answers say.
use Rattle.nbd_laws.proofs.{Common.{and_parts, ◌≡◌, ℕ, zero, suc, ◌==◌, List, [], ◌∷◌, length, replicate, refl, ◌∙◌, ap, Option, None, Bool, true, false, ◌&&◌, eqb-true, arith, Message, WireFault, are_zeroes, Whole, fault_if}, judge.DecideLemmas.last_reading}

pub and_false : (a b : Bool) → (a && b) ≡ false → a ≡ true → b ≡ false
and_false a b e h = grind arith

pub fault_none : (c : Bool) (f : WireFault) (rest : Option WireFault) → fault_if c f rest ≡ None → (c ≡ false) × (rest ≡ None)
fault_none c f rest e = grind arith

pub ended_whole : (f : Option WireFault) (m n : Message) → last_reading f m ≡ Whole n → (f ≡ None) × (m ≡ n)
ended_whole f m n e = grind arith

pub are_zeroes-replicate : (n : ℕ) (bs : List ℕ) → length bs ≡ n → are_zeroes bs ≡ true → bs ≡ replicate n 0
are_zeroes-replicate zero [] l e = refl
are_zeroes-replicate (suc n) [] l e = absurd (omega arith)
are_zeroes-replicate zero (b ∷ bs) l e = absurd (omega arith)
are_zeroes-replicate (suc n) (b ∷ bs) l e =
    let h : ((b == 0) ≡ true) × (are_zeroes bs ≡ true) = and_parts (b == 0) (are_zeroes bs) e in
    ap (λ x. x ∷ bs) (eqb-true b 0 h.0) ∙ ap (λ l. 0 ∷ l) (are_zeroes-replicate n bs (omega arith) h.1)
