-- Texts of lines: what a text's first line is, that a text has one reading at most, and none where a line is bad.
use Rattle.nbd_capture.proofs.{Common.{arith, ◌≡◌, ℕ, suc, List, [], ◌∷◌, ◌++◌, ◌⊎◌, inl, inr, refl, sym, ap, ◌∙◌, subst, append_assoc, line_feed, IsUnbroken, IsText, IsFirstBadLine, empty, line, formless, unended, later}, PartingLemmas.{first_parts, none_parted}}

pub first_lines : (a b x y : List ℕ) → IsUnbroken a → IsUnbroken b → a ++ line_feed ∷ x ≡ b ++ line_feed ∷ y → (a ≡ b) × (x ≡ y)
first_lines a b x y = first_parts line_feed a b x y

pub broken : (a b x : List ℕ) → IsUnbroken b → b ≡ a ++ line_feed ∷ x → ⊥
broken a b x = none_parted line_feed a b x

pub not_empty : (a x : List ℕ) → [] ≡ a ++ line_feed ∷ x → ⊥
not_empty a x e = broken a [] x tt e

-- each line stands for one list of values at most
abbrev pub IsFunctional : {V : Type 0} → (List ℕ → List V → Type 0) → Type 0
IsFunctional {V} Form = (bytes : List ℕ) (a b : List V) → Form bytes a → Form bytes b → a ≡ b

module _ {V : Type 0} (Form : List ℕ → List V → Type 0) where
  -- a text begins with this line
  pub record Begins (text bytes rest : List ℕ) : Type 0 where
    pub unbroken : IsUnbroken bytes
    pub whole : text ≡ bytes ++ line_feed ∷ rest

  pub record Step (text : List ℕ) (values : List V) : Type 0 where
    pub bytes : List ℕ
    pub said : List V
    pub rest : List ℕ
    pub after : List V
    pub begins : Begins text bytes rest
    pub form : Form bytes said
    pub reads : IsText Form rest after
    pub all : values ≡ said ++ after

  pub parts : (text : List ℕ) (values : List V) → IsText Form text values → ((text ≡ []) × (values ≡ [])) ⊎ Step text values
  parts text values h = grind arith

  pub same_first : (text a b x y : List ℕ) → Begins text a x → Begins text b y → (a ≡ b) × (x ≡ y)
  same_first text a b x y p q = first_lines a b x y p.unbroken q.unbroken (sym p.whole ∙ q.whole)

  pub ends : (text bytes rest : List ℕ) → Begins text bytes rest → text ≡ [] → ⊥
  ends text bytes rest p e = not_empty bytes rest (sym e ∙ p.whole)

  -- by the readings of what stands after the first line
  pub one_reading : IsFunctional Form → (text : List ℕ) (a b : List V) → IsText Form text a → IsText Form text b → a ≡ b
  one_reading same text a b empty second =
      elim (parts [] b second) [
        | inl none ↦ sym none.1
        | inr step ↦ absurd (ends [] step.bytes step.rest step.begins refl)
      ]
  one_reading same text a b (line bytes said rest after u f r) second =
      let begins : Begins (bytes ++ line_feed ∷ rest) bytes rest = record { unbroken = u; whole = refl } in
      elim (parts (bytes ++ line_feed ∷ rest) b second) [
        | inl none ↦ absurd (ends _ bytes rest begins none.0)
        | inr step ↦
            let first = same_first _ bytes step.bytes rest step.rest begins step.begins in
            let said_same : said ≡ step.said = same step.bytes said step.said (subst (λ l. Form l said) first.0 f) step.form in
            let after_same : after ≡ step.after = one_reading same rest after step.after r (subst (λ t. IsText Form t step.after) (sym first.1) step.reads) in
            ap (λ l. l ++ after) said_same ∙ ap (λ l. step.said ++ l) after_same ∙ sym step.all
      ]

  -- a bad line stays bad: no reading gets past it
  pub no_reading : (text : List ℕ) (n : ℕ) (values : List V) → IsFirstBadLine Form text n → IsText Form text values → ⊥
  no_reading text n values (formless bytes rest u none) r =
      let begins : Begins (bytes ++ line_feed ∷ rest) bytes rest = record { unbroken = u; whole = refl } in
      elim (parts (bytes ++ line_feed ∷ rest) values r) [
        | inl ended ↦ ends _ bytes rest begins ended.0
        | inr step ↦
            let first = same_first _ bytes step.bytes rest step.rest begins step.begins in
            none step.said (subst (λ l. Form l step.said) (sym first.0) step.form)
      ]
  no_reading text n values (unended byte bytes u) r =
      elim (parts (byte ∷ bytes) values r) [
        | inl ended ↦ cc ended.0
        | inr step ↦ broken step.bytes (byte ∷ bytes) step.rest u step.begins.whole
      ]
  no_reading text n values (later bytes said rest m u f bad) r =
      let begins : Begins (bytes ++ line_feed ∷ rest) bytes rest = record { unbroken = u; whole = refl } in
      elim (parts (bytes ++ line_feed ∷ rest) values r) [
        | inl ended ↦ ends _ bytes rest begins ended.0
        | inr step ↦
            let first = same_first _ bytes step.bytes rest step.rest begins step.begins in
            no_reading rest m step.after bad (subst (λ t. IsText Form t step.after) (sym first.1) step.reads)
      ]

  -- what a text with a first bad line begins with
  record Good (text : List ℕ) (n : ℕ) : Type 0 where
    bytes : List ℕ
    said : List V
    rest : List ℕ
    m : ℕ
    begins : Begins text bytes rest
    form : Form bytes said
    bad : IsFirstBadLine Form rest m
    count : n ≡ suc m

  record Bad (text : List ℕ) : Type 0 where
    bytes : List ℕ
    rest : List ℕ
    begins : Begins text bytes rest
    none : (said : List V) → Form bytes said → ⊥

  bad_parts : (text : List ℕ) (n : ℕ) → IsFirstBadLine Form text n → ((n ≡ 1) × (Bad text ⊎ IsUnbroken text)) ⊎ Good text n
  bad_parts text n h = grind arith

  not_both : (text : List ℕ) (n : ℕ) → Bad text ⊎ IsUnbroken text → Good text n → ⊥
  not_both text n (inl bad) good =
      let first = same_first text bad.bytes good.bytes bad.rest good.rest bad.begins good.begins in
      bad.none good.said (subst (λ l. Form l good.said) (sym first.0) good.form)
  not_both text n (inr u) good = broken good.bytes text good.rest u good.begins.whole

  pub one_first_bad : (text : List ℕ) (m n : ℕ) → IsFirstBadLine Form text m → IsFirstBadLine Form text n → m ≡ n
  one_first_bad text m n (formless bytes rest u none) second =
      let begins : Begins (bytes ++ line_feed ∷ rest) bytes rest = record { unbroken = u; whole = refl } in
      elim (bad_parts (bytes ++ line_feed ∷ rest) n second) [
        | inl now ↦ sym now.0
        | inr good ↦ absurd (not_both _ n (inl (record { bytes = bytes; rest = rest; begins = begins; none = none })) good)
      ]
  one_first_bad text m n (unended byte bytes u) second =
      elim (bad_parts (byte ∷ bytes) n second) [
        | inl now ↦ sym now.0
        | inr good ↦ absurd (not_both _ n (inr u) good)
      ]
  one_first_bad text m n (later bytes said rest k u f bad) second =
      let begins : Begins (bytes ++ line_feed ∷ rest) bytes rest = record { unbroken = u; whole = refl } in
      elim (bad_parts (bytes ++ line_feed ∷ rest) n second) [
        | inl now ↦
            absurd (not_both (bytes ++ line_feed ∷ rest) (suc k) now.1 (record { bytes = bytes; said = said; rest = rest; m = k; begins = begins; form = f; bad = bad; count = refl }))
        | inr good ↦
            let first = same_first _ bytes good.bytes rest good.rest begins good.begins in
            ap suc (one_first_bad rest k good.m bad (subst (λ t. IsFirstBadLine Form t good.m) (sym first.1) good.bad)) ∙ sym good.count
      ]

  -- where a text has a reading, what stands after some of its lines has the values after theirs
  pub rest_reading : IsFunctional Form → (prefix rest : List ℕ) (a all : List V) → IsText Form prefix a → IsText Form (prefix ++ rest) all → (more : List V) × (all ≡ a ++ more) × IsText Form rest more
  rest_reading same prefix rest a all empty whole = (all, refl, whole)
  rest_reading same prefix rest a all (line bytes said tail values u f r) whole =
      let begins : Begins ((bytes ++ line_feed ∷ tail) ++ rest) bytes (tail ++ rest) = record { unbroken = u; whole = append_assoc bytes (line_feed ∷ tail) rest } in
      elim (parts ((bytes ++ line_feed ∷ tail) ++ rest) all whole) [
        | inl none ↦ absurd (ends _ bytes (tail ++ rest) begins none.0)
        | inr step ↦
            let first = same_first _ bytes step.bytes (tail ++ rest) step.rest begins step.begins in
            let said_same : said ≡ step.said = same step.bytes said step.said (subst (λ l. Form l said) first.0 f) step.form in
            let more = rest_reading same tail rest values step.after r (subst (λ t. IsText Form t step.after) (sym first.1) step.reads) in
            (more.0, step.all ∙ ap (λ l. step.said ++ l) more.1 ∙ sym (append_assoc step.said values more.0) ∙ ap (λ l. l ++ values ++ more.0) (sym said_same), more.2)
      ]
