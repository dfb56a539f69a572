-- Entries of an order, one after the other.
use Rattle.nbd_laws.proofs.Common.{arith, ◌≡◌, ℕ, ◌<◌, ◌≤◌, ◌⊎◌, ◌==◌, ◌&&◌, ◌||◌, List, [], ◌∷◌, ◌++◌, refl, sym, ap, subst, inl, inr, Option, Some, Bool, true, IsTrue, append_assoc, eqb-true, cases_eq, Entry, IsServedAt, MayServe, Names, NamesWhole, in_part, is_served, whole}

pub Names-push : (es : List Entry) (e : Entry) → Names (es ++ e ∷ []) e.request
Names-push [] e = inl refl
Names-push (d ∷ es) e = inr (Names-push es e)

pub Names-left : (es fs : List Entry) (k : ℕ) → Names es k → Names (es ++ fs) k
Names-left (e ∷ es) fs k = elim [ inl q ↦ inl q | inr h ↦ inr (Names-left es fs k h) ]
Names-left [] fs k = λ h. absurd h

pub Names-append_cases : (es fs : List Entry) (k : ℕ) → Names (es ++ fs) k → Names es k ⊎ Names fs k
Names-append_cases [] fs k h = inr h
Names-append_cases (e ∷ es) fs k h = elim h [ inl q ↦ inl (inl q) | inr n ↦ elim (Names-append_cases es fs k n) [ inl a ↦ inl (inr a) | inr b ↦ inr b ] ]

pub Names-push_cases : (es : List Entry) (e : Entry) (k : ℕ) → Names (es ++ e ∷ []) k → Names es k ⊎ (e.request ≡ k)
Names-push_cases es e k h = elim (Names-append_cases es (e ∷ []) k h) [ inl a ↦ inl a | inr b ↦ elim b [ inl q ↦ inr q | inr n ↦ absurd n ] ]

pub NamesWhole-push : (es : List Entry) (k : ℕ) → NamesWhole (es ++ whole k ∷ []) k
NamesWhole-push [] k = inl (refl, refl)
NamesWhole-push (d ∷ es) k = inr (NamesWhole-push es k)

pub NamesWhole-left : (es fs : List Entry) (k : ℕ) → NamesWhole es k → NamesWhole (es ++ fs) k
NamesWhole-left (e ∷ es) fs k = elim [ inl q ↦ inl q | inr h ↦ inr (NamesWhole-left es fs k h) ]
NamesWhole-left [] fs k = λ h. absurd h

pub whole_names : (es : List Entry) (k : ℕ) → NamesWhole es k → Names es k
whole_names [] k h = h
whole_names (e ∷ es) k h = elim h [ inl q ↦ inl q.0 | inr n ↦ inr (whole_names es k n) ]

or_right : (b : Bool) {c : Bool} → IsTrue c → IsTrue (b || c)
or_right b h = grind arith

-- a request that is served atomically is served at each offset
pub served_whole : (es : List Entry) (k x : ℕ) → NamesWhole es k → IsTrue (is_served es k x)
served_whole [] k x h = absurd h
served_whole (e ∷ es) k x h = elim h [
  | inl q ↦ grind arith
  | inr n ↦ or_right ((e.request == k) && in_part e.part x) (served_whole es k x n)
]

pub served_atomically : (within : ℕ → Bool) (es : List Entry) (k x : ℕ) → NamesWhole es k → IsServedAt within es k x
served_atomically within es k x h = record { named = whole_names es k h; covered = λ i. served_whole es k x h }

served-left : (es fs : List Entry) (k x : ℕ) → IsTrue (is_served es k x) → IsTrue (is_served (es ++ fs) k x)
served-left [] fs k x h = absurd (cc)
served-left (e ∷ es) fs k x h = grind (arith, served-left es fs k x)

-- what entries serve is served with another entry before them
pub served_behind : (e : Entry) (es : List Entry) (k x : ℕ) → IsTrue (is_served es k x) → IsTrue (is_served (e ∷ es) k x)
served_behind e es k x h = or_right ((e.request == k) && in_part e.part x) h

-- what is served stays so
pub served_at-left : (within : ℕ → Bool) (es fs : List Entry) (k x : ℕ) → IsServedAt within es k x → IsServedAt within (es ++ fs) k x
served_at-left within es fs k x h = record { named = Names-left es fs k h.named; covered = λ i. served-left es fs k x (h.covered i) }

-- a request that one of two lists serves is served by one of them
pub served-append : (es fs : List Entry) (k x : ℕ) → is_served (es ++ fs) k x ≡ (is_served es k x || is_served fs k x)
served-append [] fs k x = refl
served-append (e ∷ es) fs k x = grind (arith, served-append es fs k x)

pub same_number : (j k : ℕ) → (j ≡ k) ⊎ (j ≡ k → ⊥)
same_number j k = cases_eq j k

-- entries that serve something of a request name it
pub names_served : (es : List Entry) (k x : ℕ) → IsTrue (is_served es k x) → Names es k
names_served [] k x h = absurd (cc)
names_served (e ∷ es) k x h = grind (arith, eqb-true, names_served es k x)

-- the entry names a request, and may be served after these
abbrev pub IsFine : (count : ℕ) (inside : ℕ → ℕ → Bool) → List Entry → Entry → Type 0
IsFine count inside before e = (0 < e.request) × (e.request ≤ count) × MayServe (inside e.request) before e

-- each of the entries does, after those before it
abbrev pub AreFine : (count : ℕ) (inside : ℕ → ℕ → Bool) → List Entry → List Entry → Type 0
AreFine count inside before [] = Unit {0}
AreFine count inside before (e ∷ order) = IsFine count inside before e × AreFine count inside (before ++ e ∷ []) order

-- neither this entry nor a later one serves what was due before this entry's request had completed
abbrev pub IsInTime : (ℕ → ℕ → Option ℕ) → List Entry → Type 0
IsInTime due [] = Unit {0}
IsInTime due (e ∷ order) = ((k x n : ℕ) → IsTrue (is_served (e ∷ order) k x) → due k x ≡ Some n → e.request ≤ n) × IsInTime due order

-- the order has no fault, told entry by entry
pub record HasNoFault (count : ℕ) (due : ℕ → ℕ → Option ℕ) (inside : ℕ → ℕ → Bool) (order : List Entry) : Type 0 where
  pub fine : AreFine count inside [] order
  pub in_time : IsInTime due order
  pub served : (k x n : ℕ) → 0 < k → k ≤ count → due k x ≡ Some n → IsServedAt (inside k) order k x

pub AreFine-left : (count : ℕ) (inside : ℕ → ℕ → Bool) (before es fs : List Entry) → AreFine count inside before (es ++ fs) → AreFine count inside before es
AreFine-left count inside before [] fs f = tt
AreFine-left count inside before (e ∷ es) fs f = (f.0, AreFine-left count inside (before ++ e ∷ []) es fs f.1)

pub AreFine-right : (count : ℕ) (inside : ℕ → ℕ → Bool) (before es fs : List Entry) → AreFine count inside before (es ++ fs) → AreFine count inside (before ++ es) fs
AreFine-right count inside before [] fs f = subst (λ l. AreFine count inside l fs) (sym (nil before)) f
  where
    nil : (l : List Entry) → l ++ [] ≡ l
    nil [] = refl
    nil (x ∷ l) = ap (λ m. x ∷ m) (nil l)
AreFine-right count inside before (e ∷ es) fs f = subst (λ l. AreFine count inside l fs) (append_assoc before (e ∷ []) es) (AreFine-right count inside (before ++ e ∷ []) es fs f.1)

-- of fewer requests, with the same offsets inside them
pub AreFine-as : (count count' : ℕ) (inside inside' : ℕ → ℕ → Bool) (before order : List Entry) →
    ((k : ℕ) → Names order k → 0 < k → k ≤ count → (k ≤ count') × (inside k ≡ inside' k)) → AreFine count inside before order → AreFine count' inside' before order
AreFine-as count count' inside inside' before [] same f = tt
AreFine-as count count' inside inside' before (e ∷ order) same f =
    let s : (e.request ≤ count') × (inside e.request ≡ inside' e.request) = same e.request (inl refl) f.0.0 f.0.1 in (
      (f.0.0, s.0, subst (λ within. MayServe within before e) s.1 f.0.2),
      AreFine-as count count' inside inside' (before ++ e ∷ []) order (λ k n. same k (inr n)) f.1,
    )

-- entries that may be served serve nothing that was served before them
pub closed_unserved : (count : ℕ) (inside : ℕ → ℕ → Bool) (before order : List Entry) (k x : ℕ) → AreFine count inside before order → IsServedAt (inside k) before k x → is_served order k x ≡ true → ⊥
closed_unserved count inside before [] k x f h n = absurd (cc)
closed_unserved count inside before (e ∷ order) k x f h n = grind (arith, served_at-left, eqb-true, closed_unserved count inside (before ++ e ∷ []) order k x f.1 (served_at-left (inside k) before (e ∷ []) k x h))

pub IsInTime-right : (κ : ℕ → ℕ → Option ℕ) (es fs : List Entry) → IsInTime κ (es ++ fs) → IsInTime κ fs
IsInTime-right κ [] fs h = h
IsInTime-right κ (e ∷ es) fs h = IsInTime-right κ es fs h.1
