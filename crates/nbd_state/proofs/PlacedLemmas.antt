-- The exchanges of a state, and the requests that they show.
use Rattle.nbd_state.proofs.Common.{◌≡◌, ℕ, zero, suc, ◌-◌, List, [], ◌∷◌, length, refl, sym, ◌∙◌, ap, subst, Option, Some, None, arith, slice_get, place_at, Operation, Exporting, Core, Transmission, operation, target, export_in, IsFound, find, Exchange, State, IsShown, AreShown, Shows, place_of}
use Rattle.nbd_wire.specs.protocol.States as definitions

pub shown_length : (o : Option Exporting) (es : List Operation) (xs : List Exchange) → AreShown o es xs → length es ≡ length xs
shown_length o [] [] s = refl
shown_length o [] (x ∷ xs) s = grind arith
shown_length o (e ∷ es) [] s = grind arith
shown_length (Some export) (e ∷ es) (x ∷ xs) s = ap suc (shown_length (Some export) es xs s.1)
shown_length None (e ∷ es) (x ∷ xs) s = absurd s

-- the exchange at the place of a request shows it
pub shown_at : (export : Exporting) (es : List Operation) (xs : List Exchange) (k : ℕ) (e : Operation) → AreShown (Some export) es xs → operation (suc k) es ≡ Some e →
    (x : Exchange) × (slice_get xs k ≡ Some x) × IsShown export e x
shown_at export [] xs k e s q = absurd (cc)
shown_at export (y ∷ es) [] k e s q = absurd s
shown_at export (y ∷ es) (x ∷ xs) zero e s q = (x, refl, (let p : y ≡ e = cc in subst (λ z. IsShown export z x) p s.0))
shown_at export (y ∷ es) (x ∷ xs) (suc k) e s q = shown_at export es xs k e s.1 q

pub no_entry : (es : List Operation) (e : Operation) → operation 0 es ≡ Some e → ⊥
no_entry [] e q = absurd (cc)
no_entry (x ∷ es) e q = absurd (cc)

pub are_shown_in : (state : State) (core : Core) (export : Exporting) → Shows state core → core.phase ≡ Transmission export → AreShown (Some export) core.entries state.exchanges.items
are_shown_in state core export s p = subst (λ (q : definitions.Phase). AreShown (export_in q) core.entries state.exchanges.items) p s.are_shown

-- the place in the map is that of a request, which stands there
pub record IsPlaced (core : Core) (export : Exporting) (cookie place : ℕ) (exchanges : List Exchange) : Type 0 where
  pub e : Operation
  pub x : Exchange
  pub found : target cookie core.entries ≡ Some (suc place)
  pub numbered : operation (suc place) core.entries ≡ Some e
  pub stands : slice_get exchanges place ≡ Some x
  pub shown : IsShown export e x

pub place_shows_operation : (state : State) (core : Core) (export : Exporting) (cookie place : ℕ) → Shows state core → core.phase ≡ Transmission export →
    place_at state.outstanding cookie ≡ Some place → IsPlaced core export cookie place state.exchanges.items
place_shows_operation state core export cookie place s p g = go (target cookie core.entries) refl
  where
    go : (t : Option ℕ) → target cookie core.entries ≡ t → IsPlaced core export cookie place state.exchanges.items
    go None t = absurd (let w : Some place ≡ place_of None = sym g ∙ s.places cookie ∙ ap place_of t in cc)
    go (Some zero) t = absurd (let f = find cookie core.entries zero t in no_entry core.entries f.found f.numbered)
    go (Some (suc k)) t =
        let w : Some place ≡ Some (suc k - 1) = sym g ∙ s.places cookie ∙ ap place_of t in
        let v : place ≡ suc k - 1 = cc in
        let same : k ≡ place = omega (arith, v) in
        let f : IsFound cookie (suc k) core.entries = find cookie core.entries (suc k) t in
        let a = shown_at export core.entries state.exchanges.items k f.found (are_shown_in state core export s p) f.numbered in
        subst (λ j. IsPlaced core export cookie j state.exchanges.items) same
        (record { e = f.found; x = a.0; found = t; numbered = f.numbered; stands = a.1; shown = a.2 })
