-- Each text has a reading or a first bad line, where each line has a form or none.
use Rattle.nbd_capture.proofs.{Common.{ℕ, zero, suc, ◌≤◌, List, [], ◌∷◌, ◌++◌, length, ◌⊎◌, inl, inr, sym, ap, subst, arith, length-append, line_feed, IsUnbroken, IsText, IsFirstBadLine, empty, line, formless, unended, later}, PartingLemmas.parted}

-- a line has a form, or none
abbrev pub Decided : {V : Type 0} → (List ℕ → List V → Type 0) → List ℕ → Type 0
Decided {V} Form bytes = ((said : List V) × Form bytes said) ⊎ ((said : List V) → Form bytes said → ⊥)

none_short : (text : List ℕ) → length text ≤ 0 → IsUnbroken text
none_short [] short = tt
none_short (b ∷ bs) short = absurd (omega arith)

module _ {V : Type 0} (Form : List ℕ → List V → Type 0) where
  abbrev pub Told : List ℕ → Type 0
  Told text = ((values : List V) × IsText Form text values) ⊎ ((n : ℕ) × IsFirstBadLine Form text n)

  told_unended : (text : List ℕ) → IsUnbroken text → Told text
  told_unended [] u = inl ([], empty)
  told_unended (b ∷ bs) u = inr (1, unended b bs u)

  told_next : (bytes rest : List ℕ) (said : List V) → IsUnbroken bytes → Form bytes said → Told rest → Told (bytes ++ line_feed ∷ rest)
  told_next bytes rest said u f (inl read) = inl (said ++ read.0, line bytes said rest read.0 u f read.1)
  told_next bytes rest said u f (inr bad) = inr (suc bad.0, later bytes said rest bad.0 u f bad.1)

  told_within : ((bytes : List ℕ) → Decided Form bytes) → (n : ℕ) (text : List ℕ) → length text ≤ n → Told text
  told_within decide zero text short = told_unended text (none_short text short)
  told_within decide (suc n) text short =
      elim (parted line_feed text) [
        | inl none ↦ told_unended text none
        | inr first ↦
            subst Told (sym first.3)
            (elim (decide first.0) [
              | inl form ↦
                  let len = length-append first.0 (line_feed ∷ first.1) in
                  let same = ap length first.3 in
                  told_next first.0 first.1 form.0 first.2 form.1 (told_within decide n first.1 (omega (arith, len, same, short)))
              | inr none ↦ inr (1, formless first.0 first.1 first.2 none)
            ])
      ]

  pub told : ((bytes : List ℕ) → Decided Form bytes) → (text : List ℕ) → Told text
  told decide text = told_within decide (length text) text (omega arith)
