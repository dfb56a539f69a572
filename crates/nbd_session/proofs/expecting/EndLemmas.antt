-- What the last byte of a message shows to be wrong, where the exchanges show the requests.
use Rattle.nbd_session.proofs.Common.{◌≡◌, ◌<◌, ◌+◌, ℕ, zero, suc, List, [], ◌∷◌, length, refl, sym, ◌∙◌, ap, subst, Option, Some, None, false, arith, add-one, slice_get, slice_index_or, slice_get_read, same_Some, place_at, open_target, asked_at, place_shows_operation, Operation, Exporting, is_finished, Core, Transmission, in_force, operation, export_in, Exchange, State, IsShown, AreShown, Shows, WireFault, ChunkHead, SimpleHead, simple_last_fault, Chunk, Simple, chunk_fault_to, last_fault_by}
use Rattle.nbd_wire.specs.protocol.States as definitions

-- an exchange stands at a place, and shows the request there
pub record IsShownAt (core : Core) (exchanges : List Exchange) (place : ℕ) : Type 0 where
  pub export : Exporting
  pub e : Operation
  pub x : Exchange
  pub phase_is : core.phase ≡ Transmission export
  pub numbered : operation (place + 1) core.entries ≡ Some e
  pub stands : slice_get exchanges place ≡ Some x
  pub shown : IsShown export e x

-- the request at a place that has an exchange
operation_at : (export : Exporting) (es : List Operation) (xs : List Exchange) (place : ℕ) → AreShown (Some export) es xs → place < length xs →
    (e : Operation) × (x : Exchange) × (operation (suc place) es ≡ Some e) × (slice_get xs place ≡ Some x) × IsShown export e x
operation_at export [] [] place s l = absurd (omega (arith, l))
operation_at export [] (x ∷ xs) place s l = absurd s
operation_at export (e ∷ es) [] place s l = absurd s
operation_at export (e ∷ es) (x ∷ xs) zero s l = (e, x, refl, refl, s.0)
operation_at export (e ∷ es) (x ∷ xs) (suc place) s l = operation_at export es xs place s.1 (omega (arith, l))

-- without an export there is no exchange
no_exchange : (es : List Operation) (xs : List Exchange) (place : ℕ) → AreShown None es xs → place < length xs → ⊥
no_exchange [] [] place s l = omega (arith, l)
no_exchange es xs place s l = grind arith

pub exchange_shown_at : (state : State) (core : Core) (place : ℕ) → Shows state core → place < length state.exchanges.items → IsShownAt core state.exchanges.items place
exchange_shown_at state core place s l = go core.phase refl
  where
    none : (phase : definitions.Phase) → core.phase ≡ phase → export_in phase ≡ None → ⊥
    none phase p n = no_exchange core.entries state.exchanges.items place (subst (λ o. AreShown o core.entries state.exchanges.items) (ap export_in p ∙ n) s.are_shown) l

    go : (phase : definitions.Phase) → core.phase ≡ phase → IsShownAt core state.exchanges.items place
    go (Transmission export) p =
        let a = operation_at export core.entries state.exchanges.items place (subst (λ (q : definitions.Phase). AreShown (export_in q) core.entries state.exchanges.items) p s.are_shown) l in
        record { export = export; e = a.0; x = a.1; phase_is = p; numbered = ap (λ n. operation n core.entries) (add-one place) ∙ a.2; stands = a.3; shown = a.4 }
    go definitions.Greet p = absurd (none definitions.Greet p refl)
    go definitions.Flags p = absurd (none definitions.Flags p refl)
    go definitions.Choosing p = absurd (none definitions.Choosing p refl)
    go definitions.Naming p = absurd (none definitions.Naming p refl)
    go definitions.Aborting p = absurd (none definitions.Aborting p refl)
    go (definitions.Answering option payload info) p = absurd (none (definitions.Answering option payload info) p refl)
    go definitions.Ended p = absurd (none definitions.Ended p refl)

module _ (state : State) (core : Core) (place : ℕ) (s : Shows state core) (l : place < length state.exchanges.items) (x : Exchange) (is : x ≡ slice_index_or state.exchanges.items place x) where
  -- what is read at the place shows the request there
  read_at : (a : IsShownAt core state.exchanges.items place) → IsShown a.export a.e x
  read_at a = grind (arith, slice_get_read, same_Some)

  pub simple_end : (head : SimpleHead) (len : ℕ) (payload : List ℕ) (r : Option WireFault) →
      ((export : Exporting) (e : Operation) → IsShown export e x → r ≡ simple_last_fault export (Some e) head.error) →
      r ≡ last_fault_by core.phase core (Simple head place len) payload
  simple_end head len payload r o =
      let a = exchange_shown_at state core place s l in
      o a.export a.e (read_at a)
      ∙ ap (λ to. simple_last_fault a.export to head.error) (sym a.numbered)
      ∙ ap (λ (p : definitions.Phase). last_fault_by p core (Simple head place len) payload) (sym a.phase_is)

  pub chunk_end : (head : ChunkHead) → place_at state.outstanding head.cookie ≡ Some place → (payload : List ℕ) (r : Option WireFault) →
      ((export : Exporting) (e : Operation) → e.contexts ≡ in_force core → IsShown export e x → is_finished e ≡ false → r ≡ chunk_fault_to core.profile export (Some e) head payload) →
      r ≡ last_fault_by core.phase core (Chunk head place) payload
  chunk_end head g payload r o =
      let a = exchange_shown_at state core place s l in
      let b = place_shows_operation state core a.export head.cookie place s a.phase_is g in
      let numbered : operation (place + 1) core.entries ≡ Some b.e = ap (λ n. operation n core.entries) (add-one place) ∙ b.numbered in
      let same : b.e ≡ a.e = same_Some _ _ (sym numbered ∙ a.numbered) in
      o a.export a.e (asked_at (in_force core) (place + 1) core.entries a.e s.asked_with a.numbered) (read_at a)
      (subst (λ (e : Operation). is_finished e ≡ false) same (open_target core head.cookie (suc place) b.e b.found b.numbered))
      ∙ ap (λ to. chunk_fault_to core.profile a.export to head payload) (sym a.numbered)
      ∙ ap (λ (p : definitions.Phase). last_fault_by p core (Chunk head place) payload) (sym a.phase_is)
