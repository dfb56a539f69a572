-- The kinds at offsets, by the kinds from each start.
use Rattle.nbd_export.proofs.Common.{◌≡◌, ℕ, zero, suc, ◌+◌, ◌-◌, ◌<◌, ◌≤◌, ◌⊎◌, inl, inr, refl, sym, ◌∙◌, ap, subst, Option, Some, None, IsSome, arith, ⊎_elim, Bool, true, false, ◌==◌, ◌||◌, is_some, if◌then◌else◌, cases_eq, cases_lt, nat_tests, is_at, Kind, kind_at, kind_before, first_of_two, IsApartAt, ranges_met, IsJoin, IsOverlay}
use Rattle.std.specs.Ordering.{nat_cmp}

-- the kind at an offset comes from the starts up to it
pub kind_at-same : (f g : ℕ → Option Kind) (x : ℕ) → ((k : ℕ) → k ≤ x → g k ≡ f k) → kind_at g x ≡ kind_at f x
unfolding kind_at
kind_at-same f g zero h = h 0 (omega arith)
kind_at-same f g (suc x) h = rw (h (suc x) (omega arith), kind_at-same f g x (λ k l. h k (omega arith))) refl

-- the kind before an offset comes from the starts below it
pub kind_before-same : (f g : ℕ → Option Kind) (x : ℕ) → ((k : ℕ) → k < x → g k ≡ f k) → kind_before g x ≡ kind_before f x
unfolding kind_before
kind_before-same f g zero h = refl
kind_before-same f g (suc x) h = kind_at-same f g x (λ k l. h k (omega arith))

-- the kind of a range that begins here, or that before
pub kind_at-first : (f : ℕ → Option Kind) (x : ℕ) → kind_at f x ≡ first_of_two (f x) (kind_before f x)
unfolding kind_at kind_before
kind_at-first f zero = go (f 0)
  where
    go : (o : Option Kind) → o ≡ first_of_two o None
    go None = refl
    go (Some v) = refl
kind_at-first f (suc x) = refl

-- the kind just before an offset is that at the offset below it
pub kind_before-pred : (f : ℕ → Option Kind) (x : ℕ) → 0 < x → kind_before f x ≡ kind_at f (x - 1)
unfolding kind_before
kind_before-pred f zero l = absurd (omega arith)
kind_before-pred f (suc x) l = ap (kind_at f) (omega arith)

-- the kind where a range begins
pub kind_at-here : (f : ℕ → Option Kind) (x : ℕ) (v : Kind) → f x ≡ Some v → kind_at f x ≡ Some v
kind_at-here f x v e = kind_at-first f x ∙ ap (λ o. first_of_two o (kind_before f x)) e

-- the kind where none begins
pub kind_at-none : (f : ℕ → Option Kind) (x : ℕ) → f x ≡ None → kind_at f x ≡ kind_before f x
kind_at-none f x e = kind_at-first f x ∙ ap (λ o. first_of_two o (kind_before f x)) e

-- some kind from the first range on
pub kind_at-some : (f : ℕ → Option Kind) (x : ℕ) → IsSome (f 0) → IsSome (kind_at f x)
unfolding kind_at
kind_at-some f zero h = h
kind_at-some f (suc x) h = go (f (suc x)) (kind_at f x) (kind_at-some f x h)
  where
    go : (o p : Option Kind) → IsSome p → IsSome (first_of_two o p)
    go None p q = q
    go (Some v) p q = refl

-- the same kinds after an offset, where the kind there is the same
pub kind_at-behind : (f g : ℕ → Option Kind) (b x : ℕ) → kind_at g b ≡ kind_at f b → ((k : ℕ) → b < k → k ≤ x → g k ≡ f k) → b ≤ x → kind_at g x ≡ kind_at f x
unfolding kind_at
kind_at-behind f g b zero e h l = (let is : b ≡ 0 = omega arith in subst (λ (n : ℕ). kind_at g n ≡ kind_at f n) is e)
kind_at-behind f g b (suc x) e h l = ⊎_elim
    (λ (gt : x < b). (let is : b ≡ suc x = omega arith in subst (λ (n : ℕ). kind_at g n ≡ kind_at f n) is e))
    (λ (le : b ≤ x). rw (h (suc x) (omega arith) (omega arith), kind_at-behind f g b x e (λ k lo hi. h k lo (omega arith)) le) refl)
    (cases_lt x b)

-- one kind as far as no other range begins
pub kind_at-along : (f : ℕ → Option Kind) (a x : ℕ) → ((k : ℕ) → a < k → k ≤ x → f k ≡ None) → a ≤ x → kind_at f x ≡ kind_at f a
unfolding kind_at
kind_at-along f a zero h l = (let is : a ≡ 0 = omega arith in subst (λ (n : ℕ). kind_at f 0 ≡ kind_at f n) (sym is) refl)
kind_at-along f a (suc x) h l = ⊎_elim
    (λ (gt : x < a). (let is : a ≡ suc x = omega arith in subst (λ (n : ℕ). kind_at f (suc x) ≡ kind_at f n) (sym is) refl))
    (λ (le : a ≤ x). rw (h (suc x) (omega arith) (omega arith)) (kind_at-along f a x (λ k lo hi. h k lo (omega arith)) le))
    (cases_lt x a)

-- a range that begins with the kind before it may be joined to that
pub kind_at-joined : (f g : ℕ → Option Kind) (c : ℕ) (v : Kind) → f c ≡ Some v → kind_before f c ≡ Some v → g c ≡ None → ((k : ℕ) → (k ≡ c → ⊥) → g k ≡ f k) → (x : ℕ) → kind_at g x ≡ kind_at f x
kind_at-joined f g c v is before gone others x =
    let at : kind_at g c ≡ kind_at f c = kind_at-none g c gone ∙ kind_before-same f g c (λ k l. others k (λ e. omega arith)) ∙ before ∙ sym (kind_at-here f c v is) in
    ⊎_elim
    (λ (lt : x < c). kind_at-same f g x (λ k l. others k (λ e. omega arith)))
    (λ (ge : c ≤ x). kind_at-behind f g c x at (λ k lo hi. others k (λ e. omega arith)) ge)
    (cases_lt x c)

-- the kinds around a range that was laid over others
module _ (f g : ℕ → Option Kind) (first end size : ℕ) (v : Kind) (o : IsOverlay f g first end size v) where
  pub overlay_before : (x : ℕ) → x < first → kind_at g x ≡ kind_at f x
  overlay_before x l = kind_at-same f g x (λ k m. o.before k (omega arith))

  pub overlay_inside : (x : ℕ) → first ≤ x → x < end → kind_at g x ≡ Some v
  overlay_inside x lo hi = kind_at-along g first x (λ k l m. o.between k l (omega arith)) lo ∙ kind_at-here g first v o.here

  pub overlay_behind : IsSome (f 0) → (x : ℕ) → end ≤ x → x < size → kind_at g x ≡ kind_at f x
  overlay_behind whole x lo hi = kind_at-behind f g end x (at (kind_at f end) refl) (λ k l m. o.behind k l) lo
    where
      at : (w : Option Kind) → kind_at f end ≡ w → kind_at g end ≡ kind_at f end
      at (Some w) e = kind_at-here g end w (o.split (omega arith) ∙ e) ∙ sym e
      at None e = (let s : IsSome (kind_at f end) = kind_at-some f end whole in absurd (cc))

-- none begins here where one that did would contradict
pub none_unless : (f : ℕ → Option Kind) (x : ℕ) → (IsSome (f x) → ⊥) → f x ≡ None
none_unless f x h = go (f x) refl
  where
    go : (o : Option Kind) → f x ≡ o → o ≡ None
    go None e = refl
    go (Some v) e = absurd (h (subst IsSome (sym e) refl))

-- none begins where each that begins at most here begins no later than there
pub none_behind : (f : ℕ → Option Kind) (a x : ℕ) → ((k : ℕ) → k ≤ x → IsSome (f k) → k ≤ a) → (k : ℕ) → a < k → k ≤ x → f k ≡ None
none_behind f a x h k lo hi = none_unless f k (λ s. (let l : k ≤ a = h k hi s in omega arith))

-- the first range has none before it
pub apart_at_first : (f : ℕ → Option Kind) (x : ℕ) → x ≡ 0 → IsApartAt f x
unfolding kind_before
apart_at_first f x e kind here before = (let none : kind_before f x ≡ None = ap (kind_before f) e in absurd (cc))

-- another key is not found by the test for this one
pub other_key : (a k : ℕ) → (a ≡ k → ⊥) → is_at (nat_cmp a) k ≡ false
other_key a k ne = grind (arith, nat_tests)

-- the kind where a range begins, of whatever kind that is
pub kind_at-begun : (f : ℕ → Option Kind) (x : ℕ) → IsSome (f x) → kind_at f x ≡ f x
kind_at-begun f x s = go (f x) refl s
  where
    go : (o : Option Kind) → f x ≡ o → IsSome o → kind_at f x ≡ f x
    go (Some v) e t = kind_at-here f x v e ∙ sym e
    go None e t = absurd (cc)

-- a range does not begin where none does
pub same_none : (o : Option Kind) → o ≡ None → IsSome o → ⊥
same_none None e s = absurd (cc)
same_none (Some v) e s = absurd (cc)

-- a range taken away where the one before it is of its kind
pub kind_joined : (f g : ℕ → Option Kind) (c : ℕ) (v : Kind) → 0 < c → f c ≡ Some v → kind_before f c ≡ Some v → g c ≡ None → ((k : ℕ) → (k ≡ c → ⊥) → g k ≡ f k) → IsJoin f g c
kind_joined f g c v l is before gone others = record {
  kinds = kind_at-joined f g c v is before gone others;
  others = others;
  first = others 0 (λ e. omega arith);
  fewer = λ x e. ⊎_elim (λ (q : x ≡ c). ap g q ∙ gone) (λ (ne : x ≡ c → ⊥). others x ne ∙ e) (cases_eq x c);
  apart = λ kind here there. (let no : None ≡ Some kind = sym gone ∙ here in absurd (cc));
}

-- no range taken away where the kinds differ
pub kind_unjoined : (f : ℕ → Option Kind) (c : ℕ) → IsApartAt f c → IsJoin f f c
kind_unjoined f c apart = record { kinds = λ x. refl; others = λ x ne. refl; first = refl; fewer = λ x e. e; apart = apart }

-- the same kinds before, where all kinds are the same
pub kind_before-kinds : (f g : ℕ → Option Kind) → ((x : ℕ) → kind_at g x ≡ kind_at f x) → (x : ℕ) → kind_before g x ≡ kind_before f x
unfolding kind_before
kind_before-kinds f g h zero = refl
kind_before-kinds f g h (suc x) = h x

-- the kind changes here too, where a range begins alike and the one before is alike
pub apart_same : (f g : ℕ → Option Kind) (x : ℕ) → g x ≡ f x → kind_before g x ≡ kind_before f x → IsApartAt f x → IsApartAt g x
apart_same f g x e b h kind here there = h kind (sym e ∙ here) (sym b ∙ there)

-- a range laid over ranges no two neighbours of which were of one kind, and joined at both ends
module _ (f g h k : ℕ → Option Kind) (first end size : ℕ) (v : Kind) (o : IsOverlay f g first end size v)
    (whole : IsSome (f 0)) (within : (x : ℕ) → size ≤ x → f x ≡ None) (apart : (x : ℕ) → IsApartAt f x)
    (some : first < end) (fits : end ≤ size) (at_end : IsJoin g h end) (at_first : IsJoin h k first) where
  set_kinds : (x : ℕ) → kind_at k x ≡ kind_at g x
  set_kinds x = at_first.kinds x ∙ at_end.kinds x

  pub set_inside : (x : ℕ) → first ≤ x → x < end → kind_at k x ≡ Some v
  set_inside x lo hi = set_kinds x ∙ overlay_inside f g first end size v o x lo hi

  pub set_before : (x : ℕ) → x < first → kind_at k x ≡ kind_at f x
  set_before x l = set_kinds x ∙ overlay_before f g first end size v o x l

  pub set_behind : (x : ℕ) → end ≤ x → x < size → kind_at k x ≡ kind_at f x
  set_behind x lo hi = set_kinds x ∙ overlay_behind f g first end size v o whole x lo hi

  pub set_whole : IsSome (k 0)
  set_whole = subst IsSome (sym (at_first.first ∙ at_end.first)) (⊎_elim
      (λ (l : 0 < first). subst IsSome (sym (o.before 0 l)) whole)
      (λ (e : first ≤ 0). (let is : first ≡ 0 = omega arith in subst (λ (n : ℕ). IsSome (g n)) is (subst IsSome (sym o.here) refl)))
      (cases_lt 0 first))

  pub set_within : (x : ℕ) → size ≤ x → k x ≡ None
  set_within x l = at_first.fewer x (at_end.fewer x (⊎_elim
      (λ (m : end < x). o.behind x m ∙ within x l)
      (λ (m : x ≤ end). (let is : end ≡ x = omega arith in subst (λ (n : ℕ). g n ≡ None) is (o.kept (omega arith) ∙ within end (omega arith))))
      (cases_lt end x)))

  laid_apart : (x : ℕ) → (x ≡ end → ⊥) → (x ≡ first → ⊥) → IsApartAt g x
  laid_apart x not_end not_first = ⊎_elim
      (λ (l : x < first). apart_same f g x (o.before x l) (kind_before-same f g x (λ j m. o.before j (omega arith))) (apart x))
      (λ (l : first ≤ x). ⊎_elim
      (λ (m : x < end). λ kind here there. (let no : None ≡ Some kind = sym (o.between x (omega arith) m) ∙ here in absurd (cc)))
      (λ (m : end ≤ x). ⊎_elim
      (λ (n : x < size). apart_same f g x (o.behind x (omega arith))
      (kind_before-pred g x (omega arith) ∙ overlay_behind f g first end size v o whole (x - 1) (omega arith) (omega arith) ∙ sym (kind_before-pred f x (omega arith)))
      (apart x))
      (λ (n : size ≤ x). λ kind here there. (let no : None ≡ Some kind = sym (o.behind x (omega arith) ∙ within x n) ∙ here in absurd (cc)))
      (cases_lt x size))
      (cases_lt x end))
      (cases_lt x first)

  pub set_apart : (x : ℕ) → IsApartAt k x
  set_apart x = ⊎_elim
      (λ (e : x ≡ first). subst (λ (n : ℕ). IsApartAt k n) (sym e) at_first.apart)
      (λ (ne : x ≡ first → ⊥). apart_same h k x (at_first.others x ne) (kind_before-kinds h k at_first.kinds x) (⊎_elim
      (λ (e : x ≡ end). subst (λ (n : ℕ). IsApartAt h n) (sym e) at_end.apart)
      (λ (no : x ≡ end → ⊥). apart_same g h x (at_end.others x no) (kind_before-kinds g h at_end.kinds x) (laid_apart x no ne))
      (cases_eq x end)))
      (cases_eq x first)

-- one range alone, from the first byte on
module _ (f : ℕ → Option Kind) (none : (x : ℕ) → 0 < x → f x ≡ None) where
  pub one_apart : (x : ℕ) → IsApartAt f x
  one_apart x kind here there = ⊎_elim
      (λ (l : 0 < x). (let no : None ≡ Some kind = sym (none x l) ∙ here in absurd (cc)))
      (λ (l : x ≤ 0). apart_at_first f x (omega arith) kind here there)
      (cases_lt 0 x)

  pub one_kind : (v : Kind) → f 0 ≡ Some v → (x : ℕ) → kind_at f x ≡ Some v
  one_kind v e x = kind_at-along f 0 x (λ k l m. none k l) (omega arith) ∙ kind_at-here f 0 v e

-- nothing changes where no range begins
pub none_apart : (f : ℕ → Option Kind) (x : ℕ) → f x ≡ None → IsApartAt f x
none_apart f x e kind here there = (let no : None ≡ Some kind = sym e ∙ here in absurd (cc))

-- one more range is met where bytes go on from n to m, where the next one begins, or before that
pub met_one : (f : ℕ → Option Kind) (x n m : ℕ) → n < m → (n ≡ 0) ⊎ IsSome (f (x + n)) → ((y : ℕ) → x + n < y → y < x + m → f y ≡ None) → ranges_met f x m ≡ ranges_met f x n + 1
unfolding ranges_met
met_one f x n zero lt begun none = absurd (omega (arith, lt))
met_one f x n (suc m) lt begun none = ⊎_elim
    (λ (l : n < m).
    let gone : f (x + m) ≡ None = none (x + m) (omega (arith, l)) (omega arith) in
    let later : (m == 0) ≡ false = grind (arith, nat_tests, l) in
    let ih : ranges_met f x m ≡ ranges_met f x n + 1 = met_one f x n m l begun (λ y lo hi. none y lo (omega (arith, hi))) in
    rw (gone, later) (omega (arith, ih)))
    (λ (g : m ≤ n). let is : n ≡ m = omega (arith, g, lt) in subst (λ (k : ℕ). ranges_met f x (suc m) ≡ ranges_met f x k + 1) (sym is) (begins (m == 0) refl (f (x + m)) refl (subst (λ (k : ℕ). (k ≡ 0) ⊎ IsSome (f (x + k))) is begun)))
    (cases_lt n m)
  where
    begins : (b : Bool) → (m == 0) ≡ b → (o : Option Kind) → f (x + m) ≡ o → (m ≡ 0) ⊎ IsSome (f (x + m)) → ranges_met f x m + (if (m == 0) || is_some (f (x + m)) then 1 else 0) ≡ ranges_met f x m + 1
    begins true e o is d = rw e refl
    begins false e (Some v) is d = rw (e, is) refl
    begins false e None is d = absurd (elim d [ inl z ↦ cc | inr s ↦ cc ])
