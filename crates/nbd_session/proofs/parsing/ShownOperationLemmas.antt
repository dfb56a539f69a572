-- The exchanges of a state, and the requests that they show.
use Rattle.nbd_session.proofs.Common.{◌≡◌, ℕ, suc, ◌<◌, ◌≤◌, List, ◌∙◌, ap, Option, Some, None, if◌then◌else◌, arith, add-one, slice_get, Bor, le-leb, lt-leb, slice_get_past, slice_get_read, place_at, option_copied, IsItemAt, Exporting, Core, Transmission, operation, Exchange, State, IsPlaceOf, operation_counted, within, option_and_then, Shows, place_shows_operation}

module _ (state : State) (core : Core) (export : Exporting) (cookie counted place : ℕ) (s : Shows state core) (p : core.phase ≡ Transmission export) (g : place_at state.outstanding cookie ≡ Some place) where
  -- the place of a cookie is that of its request, where that is one of those up to the count
  pub place_within : place < counted → IsPlaceOf export core counted cookie state.exchanges.items (Some place)
  place_within l =
      let a = place_shows_operation state core export cookie place s p g in
      let low : suc place ≤ counted = omega arith in
      let named : operation_counted counted core cookie ≡ Some a.e =
      ap (λ t. option_and_then (λ k. operation k core.entries) (within counted t)) a.found ∙ ap (λ b. option_and_then (λ k. operation k core.entries) (if b then Some (suc place) else None)) (le-leb (suc place) counted low) ∙ a.numbered in
      (a.e, a.x, named, ap (λ n. operation n core.entries) (add-one place) ∙ a.numbered, a.stands, a.shown, a.found)

  pub none_beyond : counted ≤ place → IsPlaceOf export core counted cookie state.exchanges.items None
  none_beyond l =
      let a = place_shows_operation state core export cookie place s p g in
      let high : counted < suc place = omega arith in
      ap (λ t. option_and_then (λ k. operation k core.entries) (within counted t)) a.found ∙ ap (λ b. option_and_then (λ k. operation k core.entries) (if b then Some (suc place) else None)) (lt-leb (suc place) counted high)

-- what a slice's `get` lends
pub copied_at : (xs : List Exchange) (i : ℕ) (r : Option (Bor Exchange)) → IsItemAt xs i r → option_copied r ≡ slice_get xs i
copied_at xs i r h = grind (arith, slice_get_past, slice_get_read)

pub not_both : {A : Type 0} (o : Option A) (a : A) → o ≡ None → o ≡ Some a → ⊥
not_both o a n s = grind arith
