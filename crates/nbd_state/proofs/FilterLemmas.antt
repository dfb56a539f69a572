-- The ids of a filter, taken one after the other.
use Rattle.nbd_state.proofs.Common.{arith, ◌≡◌, ℕ, ◌==◌, ◌&&◌, ◌||◌, List, [], ◌∷◌, refl, Bool, true, false, not, eqb-true, eq-eqb, ne_eqb, subst, Option, Some, eqb-false, none-some, RequestHead, Context, Filter, are_once, is_among, Asking, Asks, filter_of_head}

pub once_same : (f g : ℕ → Bool) (ids : List ℕ) → ((i : ℕ) → f i ≡ g i) → are_once f ids ≡ are_once g ids
once_same f g ids same = grind arith

-- without the id k, the ids stand once where they do with it and k is none of them
pub once_without : (f g : ℕ → Bool) (k : ℕ) (ids : List ℕ) → ((i : ℕ) → g i ≡ (f i && not (k == i))) → are_once g ids ≡ (not (is_among ids k) && are_once f ids)
once_without f g k [] same = refl
once_without f g k (id ∷ ids) same = grind (arith, once_without f g k ids same, eq-eqb, eqb-true, ne_eqb, eqb-false)

-- one more id: `before` is whether those before it stand once, f which ids may still come, g which may after it
pub once_step : (in_force f g : ℕ → Bool) (before : Bool) (id : ℕ) (ids : List ℕ) → f id ≡ (in_force id && f id) → ((i : ℕ) → g i ≡ (f i && not (in_force id && (id == i)))) →
    ((before && f id) && are_once g ids) ≡ (before && are_once f (id ∷ ids))
once_step in_force f g before id ids h same = grind (arith, once_without)

-- what is taken, and what the ids that are left name, with one more id taken
pub now_among : (in_force : ℕ → Bool) (id q : ℕ) (old later : Bool) → (((in_force id && (id == q)) || old) || (in_force q && later)) ≡ (old || (in_force q && ((id == q) || later)))
now_among in_force id q old later = grind (arith, eqb-true)

pub and_all : (b : Bool) → (b && not false) ≡ b
and_all b = grind arith

pub and_twice : (a b : Bool) → (a && b) ≡ (a && (a && b))
and_twice a b = grind arith

pub neither : (a x y : Bool) → (a && not (x || y)) ≡ ((a && not y) && not x)
neither a x y = grind arith

pub or_none : (a b : Bool) → (a || (b && false)) ≡ a
or_none a b = grind arith

-- a request has a filter only where a context is in force
pub needs_contexts : (has_contexts : Bool) (head : RequestHead) (payload : List ℕ) (filter : Filter) → filter_of_head has_contexts head payload ≡ Some filter → has_contexts ≡ true
needs_contexts has_contexts head payload filter is = grind (arith, none-some)

pub asks_same : (flags : ℕ) (a b : List Context) (f g : Option Filter) (len : ℕ) (asking : Asking) → a ≡ b → f ≡ g → Asks flags a f len asking → Asks flags b g len asking
asks_same flags a b f g len asking p q h = subst (λ z. Asks flags b z len asking) q (subst (λ z. Asks flags z f len asking) p h)
