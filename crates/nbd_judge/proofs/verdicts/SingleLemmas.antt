-- The cases of the definitions of a verdict exclude each other.
use Rattle.nbd_judge.proofs.Common.{◌≡◌, ℕ, ◌+◌, ◌<◌, ◌⊎◌, inl, inr, List, length, refl, sym, ◌∙◌, ap, subst, Option, Some, None, slice_get, take, arith, Entry, Part, IsAgain, Names, whole_names, IsWrong, effects, FitsImage, Start, start_byte, IsBad, IsFirst, IsLate, IsUnserved, NamesAgain, NamesNone, Report, due_in, inside_in, asked_at, Asked, Profile, Exporting, IsFaultless, OrderFault, NoSuchRequest, Twice, Late, Missing, BadPart, NotCovered, Verdict, Yes, Wire, Image, Order, Content, Status, IsOtherSize, IsOrderFault, OneJudgement, OneVerdict, FirstWrongFrom, HasWrongFrom, FirstWrongOf, IsJudged, IsVerdict}
use Rattle.nbd_judge.proofs.orders.FirstLemmas.{one_first, place_before}
use Rattle.nbd_wire.specs.protocol.Explains as starts

module _ (profile : Profile) (r : Report) (order : List Entry) where
  abbrev Bad : ℕ → Type 0
  Bad i = IsBad (length r.asked) (inside_in r) order i

  abbrev Unserved : ℕ → Type 0
  Unserved k = IsUnserved (length r.asked) (due_in profile r) (inside_in r) order k

  -- the first bad entry, and that its fault is the one
  abbrev first_none : (e : ℕ) → IsOrderFault profile r order e NoSuchRequest → (i : ℕ) × (e ≡ i + 1) × IsFirst Bad i
  first_none e f = (f.0, f.1, (inl f.2, f.3))

  abbrev first_again : (e : ℕ) → IsOrderFault profile r order e Twice → (i : ℕ) × (e ≡ i + 1) × IsFirst Bad i
  first_again e f = (f.0, f.1, (inr (inl f.2), f.3))

  abbrev first_part : (e : ℕ) → IsOrderFault profile r order e BadPart → (i : ℕ) × (e ≡ i + 1) × IsFirst Bad i
  first_part e f = (f.0, f.1, (inr (inr f.2), f.5))

  one_bad : (d e : ℕ) → (i : ℕ) × (d ≡ i + 1) × IsFirst Bad i → (j : ℕ) × (e ≡ j + 1) × IsFirst Bad j → d ≡ e
  one_bad d e f g = f.1 ∙ ap (λ n. n + 1) (one_first Bad f.0 g.0 f.2 g.2) ∙ sym g.1

  -- an entry that repeats an entry of no request is not the first bad one
  none_again : (d e : ℕ) → IsOrderFault profile r order d NoSuchRequest → IsOrderFault profile r order e Twice → ⊥
  none_again d e f g =
      let same : f.0 ≡ g.0 = one_first Bad f.0 g.0 (first_none d f).2 (first_again e g).2 in
      let entry : f.2.0 ≡ g.2.0 = (let q : Some f.2.0 ≡ Some g.2.0 = sym f.2.1 ∙ ap (slice_get order) same ∙ g.2.1 in cc) in
      let p = place_before g.0 order g.2.0.request (named_before (take g.0 order) g.2.0.request g.2.0.part g.2.2) in
      let number : f.2.0.request ≡ p.1.request = ap (λ (e : Entry). e.request) entry ∙ sym p.4 in
      g.3 p.0 p.2 (inl (p.1, p.3, subst (λ (n : ℕ). (n ≡ 0) ⊎ (length r.asked < n)) number f.2.2))
    where
      named_before : (before : List Entry) (k : ℕ) (p : Option Part) → IsAgain before k p → Names before k
      named_before before k None h = h
      named_before before k (Some p) h = whole_names before k h

  none_part : (d e : ℕ) → IsOrderFault profile r order d NoSuchRequest → IsOrderFault profile r order e BadPart → ⊥
  none_part d e f g = g.3 (subst (NamesNone (length r.asked) order) (one_first Bad f.0 g.0 (first_none d f).2 (first_part e g).2) f.2)

  again_part : (d e : ℕ) → IsOrderFault profile r order d Twice → IsOrderFault profile r order e BadPart → ⊥
  again_part d e f g = g.4 (subst (NamesAgain order) (one_first Bad f.0 g.0 (first_again d f).2 (first_part e g).2) f.2)

  least_missing : (e : ℕ) → IsOrderFault profile r order e Missing → IsFirst Unserved e
  least_missing e f = (inl f.1, f.0.2)

  least_uncovered : (e : ℕ) → IsOrderFault profile r order e NotCovered → IsFirst Unserved e
  least_uncovered e f = (inr f.1, f.0.2)

  missing_covered : (d e : ℕ) → IsOrderFault profile r order d Missing → IsOrderFault profile r order e NotCovered → ⊥
  missing_covered d e f g = f.1.1 (subst (Names order) (sym (one_first Unserved d e (least_missing d f) (least_uncovered e g))) g.1.1)

  pub has_fault : (e : ℕ) (p : OrderFault) → IsOrderFault profile r order e p → IsFaultless profile r order → ⊥
  has_fault e NoSuchRequest f ok = ok.none_bad f.0 (inl f.2)
  has_fault e Twice f ok = ok.none_bad f.0 (inr (inl f.2))
  has_fault e BadPart f ok = ok.none_bad f.0 (inr (inr f.2))
  has_fault e Late f ok = ok.none_late f.0 f.3.0
  has_fault e Missing f ok = f.1.1 (ok.served e f.1.0.0 f.1.0.1).named
  has_fault e NotCovered f ok = f.1.0.2 (ok.served e f.1.0.0 f.1.0.1)

  one_fault : (d e : ℕ) (p q : OrderFault) → IsOrderFault profile r order d p → IsOrderFault profile r order e q → Order d p ≡ Order e q
  one_fault d e NoSuchRequest NoSuchRequest f g = ap (λ n. Order n NoSuchRequest) (one_bad d e (first_none d f) (first_none e g))
  one_fault d e NoSuchRequest Twice f g = absurd (none_again d e f g)
  one_fault d e NoSuchRequest BadPart f g = absurd (none_part d e f g)
  one_fault d e NoSuchRequest Late f g = absurd (g.2 f.0 (first_none d f).2.0)
  one_fault d e NoSuchRequest Missing f g = absurd (g.0.0 f.0 (first_none d f).2.0)
  one_fault d e NoSuchRequest NotCovered f g = absurd (g.0.0 f.0 (first_none d f).2.0)
  one_fault d e Twice NoSuchRequest f g = absurd (none_again e d g f)
  one_fault d e Twice Twice f g = ap (λ n. Order n Twice) (one_bad d e (first_again d f) (first_again e g))
  one_fault d e Twice BadPart f g = absurd (again_part d e f g)
  one_fault d e Twice Late f g = absurd (g.2 f.0 (first_again d f).2.0)
  one_fault d e Twice Missing f g = absurd (g.0.0 f.0 (first_again d f).2.0)
  one_fault d e Twice NotCovered f g = absurd (g.0.0 f.0 (first_again d f).2.0)
  one_fault d e BadPart NoSuchRequest f g = absurd (none_part e d g f)
  one_fault d e BadPart Twice f g = absurd (again_part e d g f)
  one_fault d e BadPart BadPart f g = ap (λ n. Order n BadPart) (one_bad d e (first_part d f) (first_part e g))
  one_fault d e BadPart Late f g = absurd (g.2 f.0 (first_part d f).2.0)
  one_fault d e BadPart Missing f g = absurd (g.0.0 f.0 (first_part d f).2.0)
  one_fault d e BadPart NotCovered f g = absurd (g.0.0 f.0 (first_part d f).2.0)
  one_fault d e Late NoSuchRequest f g = absurd (f.2 g.0 (first_none e g).2.0)
  one_fault d e Late Twice f g = absurd (f.2 g.0 (first_again e g).2.0)
  one_fault d e Late BadPart f g = absurd (f.2 g.0 (first_part e g).2.0)
  one_fault d e Late Late f g = ap (λ n. Order n Late) (f.1 ∙ ap (λ n. n + 1) (one_first (IsLate (due_in profile r) order) f.0 g.0 f.3 g.3) ∙ sym g.1)
  one_fault d e Late Missing f g = absurd (g.0.1 f.0 f.3.0)
  one_fault d e Late NotCovered f g = absurd (g.0.1 f.0 f.3.0)
  one_fault d e Missing NoSuchRequest f g = absurd (f.0.0 g.0 (first_none e g).2.0)
  one_fault d e Missing Twice f g = absurd (f.0.0 g.0 (first_again e g).2.0)
  one_fault d e Missing BadPart f g = absurd (f.0.0 g.0 (first_part e g).2.0)
  one_fault d e Missing Late f g = absurd (f.0.1 g.0 g.3.0)
  one_fault d e Missing Missing f g = ap (λ n. Order n Missing) (one_first Unserved d e (least_missing d f) (least_missing e g))
  one_fault d e Missing NotCovered f g = absurd (missing_covered d e f g)
  one_fault d e NotCovered NoSuchRequest f g = absurd (f.0.0 g.0 (first_none e g).2.0)
  one_fault d e NotCovered Twice f g = absurd (f.0.0 g.0 (first_again e g).2.0)
  one_fault d e NotCovered BadPart f g = absurd (f.0.0 g.0 (first_part e g).2.0)
  one_fault d e NotCovered Late f g = absurd (f.0.1 g.0 g.3.0)
  one_fault d e NotCovered Missing f g = absurd (missing_covered e d g f)
  one_fault d e NotCovered NotCovered f g = ap (λ n. Order n NotCovered) (one_first Unserved d e (least_uncovered d f) (least_uncovered e g))

module _ (r : Report) (order : List Entry) (initial : ℕ → Option ℕ) where
  pub has_wrong : (k x : ℕ) → FirstWrongFrom r order initial k x → ((i x : ℕ) → IsWrong (effects r) order initial i x → ⊥) → ⊥
  has_wrong k x w none = none w.0 w.4.0.0 w.4.0.1

  one_wrong : (j k x y : ℕ) → FirstWrongFrom r order initial j x → FirstWrongFrom r order initial k y → (j ≡ k) × (x ≡ y)
  one_wrong j k x y v w =
      let same : v.0 ≡ w.0 = one_first (HasWrongFrom r order initial) v.0 w.0 v.4 w.4 in
      let entry : v.1 ≡ w.1 = (let q : Some v.1 ≡ Some w.1 = sym v.2 ∙ ap (slice_get order) same ∙ w.2 in cc) in
      let request : j ≡ k = sym v.3 ∙ ap (λ (e : Entry). e.request) entry ∙ w.3 in
      let at : IsFirst (IsWrong (effects r) order initial w.0) x = subst (λ (n : ℕ). IsFirst (IsWrong (effects r) order initial n) x) same v.5 in
      let offset : x ≡ y = one_first (IsWrong (effects r) order initial w.0) x y at w.5 in
      (request, offset)

  -- so the request has one type
  one_command : (j k x y a b : ℕ) → FirstWrongOf a r order initial j x → FirstWrongOf b r order initial k y → a ≡ b
  one_command j k x y a b v w =
      let request = (one_wrong j k x y v.0 w.0).0 in
      let same : v.1.0 ≡ w.1.0 = (let q : Some v.1.0 ≡ Some w.1.0 = sym v.1.1 ∙ ap (λ n. asked_at n r.asked) request ∙ w.1.1 in cc) in
      sym v.1.2 ∙ ap (λ (z : Asked). z.command) same ∙ w.1.2

pub one_judgement : OneJudgement
one_judgement profile r order initial (Wire at fault) u v w = absurd v
one_judgement profile r order initial (Image image size) u v w = absurd v
one_judgement profile r order initial (Yes a b c) (Yes d e f) v w = (let p : a ≡ d = v.2 ∙ sym w.2 in let q : b ≡ e = v.3 ∙ sym w.3 in let s : c ≡ f = v.4 ∙ sym w.4 in cc)
one_judgement profile r order initial (Yes a b c) (Order e p) v w = absurd (has_fault profile r order e p w v.0)
one_judgement profile r order initial (Yes a b c) (Content k x) v w = absurd (has_wrong r order initial k x w.1.0 v.1)
one_judgement profile r order initial (Yes a b c) (Status k x) v w = absurd (has_wrong r order initial k x w.1.0 v.1)
one_judgement profile r order initial (Order e p) (Yes a b c) v w = absurd (has_fault profile r order e p v w.0)
one_judgement profile r order initial (Order d p) (Order e q) v w = one_fault profile r order d e p q v w
one_judgement profile r order initial (Order e p) (Content k x) v w = absurd (has_fault profile r order e p v w.0)
one_judgement profile r order initial (Order e p) (Status k x) v w = absurd (has_fault profile r order e p v w.0)
one_judgement profile r order initial (Content k x) (Yes a b c) v w = absurd (has_wrong r order initial k x v.1.0 w.1)
one_judgement profile r order initial (Content k x) (Order e p) v w = absurd (has_fault profile r order e p w v.0)
one_judgement profile r order initial (Content j x) (Content k y) v w = let one = one_wrong r order initial j k x y v.1.0 w.1.0 in (λ i. Content (one.0 i) (one.1 i))
one_judgement profile r order initial (Content j x) (Status k y) v w = absurd (let q = one_command r order initial j k x y _ _ v.1 w.1 in omega (arith, q))
one_judgement profile r order initial (Status k x) (Yes a b c) v w = absurd (has_wrong r order initial k x v.1.0 w.1)
one_judgement profile r order initial (Status k x) (Order e p) v w = absurd (has_fault profile r order e p w v.0)
one_judgement profile r order initial (Status j x) (Content k y) v w = absurd (let q = one_command r order initial j k x y _ _ v.1 w.1 in omega (arith, q))
one_judgement profile r order initial (Status j x) (Status k y) v w = let one = one_wrong r order initial j k x y v.1.0 w.1.0 in (λ i. Status (one.0 i) (one.1 i))
one_judgement profile r order initial t u v w = absurd w

one_image : (o : Option Exporting) (start : Start) (i j s t : ℕ) → IsOtherSize o start i s → IsOtherSize o start j t → Image i s ≡ Image j t
one_image (Some export) (starts.Held bytes) i j s t v w = (let p : i ≡ j = v.0 ∙ sym w.0 in let q : s ≡ t = v.1 ∙ sym w.1 in cc)
one_image o start i j s t v w = absurd v

pub fits_not : (o : Option Exporting) (start : Start) (i s : ℕ) → FitsImage o start → IsOtherSize o start i s → ⊥
fits_not (Some export) (starts.Held bytes) i s fits other = other.2 fits
fits_not o start i s fits other = other

-- a verdict is on the image, or a judgement where the image fits
abbrev Parts : Profile → Report → List Entry → Start → Verdict → Type 0
Parts profile r order initial v =
    ((i s : ℕ) × (v ≡ Image i s) × IsOtherSize r.export initial i s) ⊎ (FitsImage r.export initial × IsJudged profile r order (start_byte initial) v)

parts : (profile : Profile) (r : Report) (order : List Entry) (initial : Start) (v : Verdict) → IsVerdict profile r order initial v → Parts profile r order initial v
parts profile r order initial (Image i s) h = inl (i, s, refl, h)
parts profile r order initial (Wire at fault) h = absurd h
parts profile r order initial v h = inr h

pub one_verdict : OneVerdict
one_verdict profile r order initial v w p q = go (parts profile r order initial v p) (parts profile r order initial w q)
  where
    go : Parts profile r order initial v → Parts profile r order initial w → v ≡ w
    go (inl (i, s, e, h)) (inl (j, t, f, k)) = e ∙ one_image r.export initial i j s t h k ∙ sym f
    go (inl (i, s, e, h)) (inr (fits, k)) = absurd (fits_not r.export initial i s fits h)
    go (inr (fits, h)) (inl (j, t, f, k)) = absurd (fits_not r.export initial j t fits k)
    go (inr (fits, h)) (inr (ok, k)) = one_judgement profile r order (start_byte initial) v w h k
