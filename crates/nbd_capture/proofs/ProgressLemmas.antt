-- What a reader of lines has seen of a text: what remains to be said of the whole text once the rest of it is known.
use Rattle.nbd_capture.proofs.Common.{◌≡◌, ℕ, suc, ◌+◌, ◌≤◌, List, [], ◌∷◌, ◌++◌, length, sym, ap, arith, append_assoc, append-nil, subst, ◌==◌, true, false, eqb-true, length-append, line_feed, IsUnbroken, IsText, IsFirstBadLine, empty, line, formless, unended, later}

-- so many lines of the text were read and gave these values, and this is the rest
pub record Progress {V : Type 0} (Form : List ℕ → List V → Type 0) (text rest : List ℕ) (values : List V) (number : ℕ) : Type 0 where
  pub reads : (after : List V) → IsText Form rest after → IsText Form text (values ++ after)
  pub bad : (n : ℕ) → IsFirstBadLine Form rest (suc n) → IsFirstBadLine Form text (number + suc n)
  pub count : number + length rest ≤ length text

module _ {V : Type 0} (Form : List ℕ → List V → Type 0) where
  pub advance : (text rest bytes behind : List ℕ) (values said : List V) (number : ℕ) → Progress Form text rest values number
      → IsUnbroken bytes → rest ≡ bytes ++ line_feed ∷ behind → Form bytes said → Progress Form text behind (values ++ said) (number + 1)
  advance text rest bytes behind values said number past u whole form = record {
    reads = λ after r. subst (λ vs. IsText Form text vs) (sym (append_assoc values said after))
        (past.reads (said ++ after) (subst (λ t. IsText Form t (said ++ after)) (sym whole) (line bytes said behind after u form r)));
    bad = λ n b. let e : number + suc (suc n) ≡ number + 1 + suc n = omega arith in
        subst (λ m. IsFirstBadLine Form text m) e (past.bad (suc n) (subst (λ t. IsFirstBadLine Form t (suc (suc n))) (sym whole) (later bytes said behind (suc n) u form b)));
    count = let more = length-append bytes (line_feed ∷ behind) in let e = ap length whole in let c = past.count in omega (arith, more, e, c);
  }

  pub done : (text rest : List ℕ) (values : List V) (number : ℕ) → Progress Form text rest values number → true ≡ (length rest == 0) → IsText Form text values
  done text [] values number past none = subst (λ vs. IsText Form text vs) (append-nil values) (past.reads [] empty)
  done text (b ∷ rest) values number past none = let e = eqb-true (length (b ∷ rest)) 0 (sym none) in absurd (omega (arith, e))

  pub stopped : (text rest bytes behind : List ℕ) (values : List V) (number : ℕ) → Progress Form text rest values number
      → IsUnbroken bytes → rest ≡ bytes ++ line_feed ∷ behind → ((said : List V) → Form bytes said → ⊥) → IsFirstBadLine Form text (number + 1)
  stopped text rest bytes behind values number past u whole none =
      past.bad 0 (subst (λ t. IsFirstBadLine Form t 1) (sym whole) (formless bytes behind u none))

  pub cut_off : (text rest : List ℕ) (values : List V) (number : ℕ) → Progress Form text rest values number
      → false ≡ (length rest == 0) → IsUnbroken rest → IsFirstBadLine Form text (number + 1)
  cut_off text [] values number past some u = cc some
  cut_off text (b ∷ rest) values number past some u = past.bad 0 (unended b rest u)
