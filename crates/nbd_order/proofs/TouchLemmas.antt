-- What the first entries of an order serve at an offset, and the byte that they leave there.
use Rattle.nbd_order.proofs.Common.{◌≡◌, ℕ, zero, suc, ◌<◌, ◌≤◌, inl, inr, List, [], ◌∷◌, refl, sym, ◌∙◌, ap, Option, Some, None, true, false, ◌&&◌, ◌||◌, ◌==◌, arith, drop, slice_get, take, IsTrue, and_from, and_parts, eq-eqb, eqb-true, or_cases, or_left, or_right, Entry, Names, in_part, is_served, Effect, byte_before, byte_or_start, last_touch, later, touch_of}

-- an entry that serves offset x of request k
abbrev pub ServesAt : List Entry → (k x : ℕ) → Type 0
ServesAt es k x = (i : ℕ) × (e : Entry) × (slice_get es i ≡ Some e) × (e.request ≡ k) × IsTrue (in_part e.part x)

pub served_at : (es : List Entry) (k x : ℕ) → IsTrue (is_served es k x) → ServesAt es k x
served_at [] k x h = absurd (let q : false ≡ true = h in (cc))
served_at (e ∷ es) k x h = elim (or_cases ((e.request == k) && in_part e.part x) (is_served es k x) h) [
  | inl here ↦ (let w = and_parts (e.request == k) (in_part e.part x) here in (zero, e, refl, eqb-true e.request k w.0, w.1))
  | inr later ↦ (let s = served_at es k x later in (suc s.0, s.1, s.2, s.3, s.4))
]

pub is_served_by : (es : List Entry) (k x j : ℕ) (e : Entry) → slice_get es j ≡ Some e → e.request ≡ k → IsTrue (in_part e.part x) → is_served es k x ≡ true
is_served_by [] k x j e at named part = absurd (cc)
is_served_by (d ∷ es) k x zero e at named part =
    let same : e ≡ d = cc in
    or_left ((d.request == k) && in_part d.part x) (is_served es k x)
    (ap (λ (y : Entry). (y.request == k) && in_part y.part x) (sym same) ∙ and_from (e.request == k) (in_part e.part x) (eq-eqb e.request k named) part)
is_served_by (d ∷ es) k x (suc j) e at named part = or_right ((d.request == k) && in_part d.part x) (is_served es k x) (is_served_by es k x j e at named part)

-- the same, of the entries from one on that stands no later
pub is_served_from : (es : List Entry) (k x i j : ℕ) (e : Entry) → i ≤ j → slice_get es j ≡ Some e → e.request ≡ k → IsTrue (in_part e.part x) → is_served (drop i es) k x ≡ true
is_served_from [] k x i j e l at named part = absurd (cc)
is_served_from (d ∷ es) k x zero j e l at named part = is_served_by (d ∷ es) k x j e at named part
is_served_from (d ∷ es) k x (suc i) zero e l at named part = absurd (omega arith)
is_served_from (d ∷ es) k x (suc i) (suc j) e l at named part = is_served_from es k x i j e (omega arith) at named part

pub names_by : (es : List Entry) (k j : ℕ) (e : Entry) → slice_get es j ≡ Some e → e.request ≡ k → Names es k
names_by [] k j e at named = absurd (cc)
names_by (d ∷ es) k zero e at named = inl (let same : d ≡ e = cc in ap (λ (y : Entry). y.request) same ∙ named)
names_by (d ∷ es) k (suc j) e at named = inr (names_by es k j e at named)

pub taken : (es : List Entry) (i j : ℕ) (e : Entry) → j < i → slice_get es j ≡ Some e → slice_get (take i es) j ≡ Some e
taken [] i j e l at = absurd (cc)
taken (d ∷ es) zero j e l at = absurd (omega arith)
taken (d ∷ es) (suc i) zero e l at = at
taken (d ∷ es) (suc i) (suc j) e l at = taken es i j e (omega arith) at

pub from_taken : (es : List Entry) (i j : ℕ) (e : Entry) → slice_get (take i es) j ≡ Some e → (j < i) × (slice_get es j ≡ Some e)
from_taken [] zero j e at = absurd (cc)
from_taken [] (suc i) j e at = absurd (cc)
from_taken (d ∷ es) zero j e at = absurd (cc)
from_taken (d ∷ es) (suc i) zero e at = (omega arith, at)
from_taken (d ∷ es) (suc i) (suc j) e at = (let h = from_taken es i j e at in let l : j < i = h.0 in (omega arith, h.1))

-- one entry more serves what it serves itself
pub served_more : (es : List Entry) (i : ℕ) (d : Entry) (k x : ℕ) → slice_get es i ≡ Some d
    → is_served (take (suc i) es) k x ≡ (is_served (take i es) k x || ((d.request == k) && in_part d.part x))
served_more [] i d k x at = absurd (cc)
served_more (c ∷ es) zero d k x at = (let same : c ≡ d = cc in grind (arith, ap (λ (y : Entry). (y.request == k) && in_part y.part x) same))
served_more (c ∷ es) (suc i) d k x at = grind (arith, served_more es i d k x at)

pub later_none : (o : Option Effect) → o ≡ later o None
later_none o = grind arith

pub later_later : (a b c : Option Effect) → later (later a b) c ≡ later a (later b c)
later_later a b c = grind arith

module _ (requests : ℕ → Option Effect) (x : ℕ) where
  -- one entry more touches last where it touches
  touch_more : (es : List Entry) (i : ℕ) (d : Entry) → slice_get es i ≡ Some d
      → last_touch requests x (take (suc i) es) ≡ later (touch_of d.part (requests d.request) x) (last_touch requests x (take i es))
  touch_more [] i d at = absurd (cc)
  touch_more (c ∷ es) zero d at =
      let same : c ≡ d = cc in
      ap (λ (y : Entry). touch_of y.part (requests y.request) x) same ∙ later_none (touch_of d.part (requests d.request) x)
  touch_more (c ∷ es) (suc i) d at =
      ap (λ o. later o (touch_of c.part (requests c.request) x)) (touch_more es i d at)
      ∙ later_later (touch_of d.part (requests d.request) x) (last_touch requests x (take i es)) (touch_of c.part (requests c.request) x)

  -- one entry more leaves the byte that it touches with
  pub byte_more : (es : List Entry) (initial : ℕ → Option ℕ) (i : ℕ) (d : Entry) (o : Option Effect) → slice_get es i ≡ Some d
      → touch_of d.part (requests d.request) x ≡ o
      → byte_before requests es initial (suc i) x ≡ byte_or_start (later o (last_touch requests x (take i es))) initial x
  byte_more es initial i d o at touch =
      ap (λ t. byte_or_start t initial x) (touch_more es i d at ∙ ap (λ t. later t (last_touch requests x (take i es))) touch)
