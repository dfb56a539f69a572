-- A report says of each request what the run does.
use Rattle.nbd_laws.proofs.Common.{◌≡◌, ℕ, zero, suc, ◌+◌, ◌<◌, ◌≤◌, List, [], ◌∷◌, length, refl, ◌∙◌, ap, Option, Some, None, arith, slice_get, Item, Asked, asked_at, operations_of, known_count, report, asked_of, asked_list, Operation, ends_at, Core, export_in, operation, start}

pub length-stated : (n : ℕ) (core : Core) (κ : ℕ → Option ℕ) (es : List Operation) → length (asked_list n core κ es) ≡ length es
length-stated n core κ [] = refl
length-stated n core κ (e ∷ es) = ap suc (length-stated (suc n) core κ es)

pub length-report : (items : List Item) → length (report items).asked ≡ length (operations_of items)
unfolding report
length-report items = length-stated 0 (ends_at start items).core (known_count items) (operations_of items)

-- request k where messages have led to this core, with this count at the start of its first reply
abbrev pub stated : Core → (κ : ℕ → Option ℕ) → (k : ℕ) → Operation → Asked
stated core κ k e = asked_of (export_in core.phase) (κ k) (core.shown k) (core.ended_at k) e

abbrev pub told_if : Core → (κ : ℕ → Option ℕ) → (k : ℕ) → Option Operation → Option Asked
told_if core κ k (Some e) = Some (stated core κ k e)
told_if core κ k None = None

asked-stated : (n k : ℕ) (core : Core) (κ : ℕ → Option ℕ) (es : List Operation) → slice_get (asked_list n core κ es) k ≡ told_if core κ (n + suc k) (operation (suc k) es)
asked-stated n k core κ [] = refl
asked-stated n zero core κ (e ∷ es) = ap (λ i. Some (stated core κ i e)) (omega arith)
asked-stated n (suc k) core κ (e ∷ es) = asked-stated (suc n) k core κ es ∙ ap (λ i. told_if core κ i (operation (suc k) es)) (omega arith)

-- request k of a report
pub asked-report : (items : List Item) (k : ℕ) → asked_at k (report items).asked ≡ told_if (ends_at start items).core (known_count items) k (operation k (operations_of items))
unfolding report
asked-report items zero = none (operations_of items)
  where
    none : (es : List Operation) → None ≡ told_if (ends_at start items).core (known_count items) zero (operation zero es)
    none [] = refl
    none (e ∷ es) = refl
asked-report items (suc k) = asked-stated 0 k (ends_at start items).core (known_count items) (operations_of items) ∙ ap (λ i. told_if (ends_at start items).core (known_count items) i (operation (suc k) (operations_of items))) (omega arith)

pub entry_within : (k : ℕ) (es : List Operation) → 0 < k → k ≤ length es → (e : Operation) × (operation k es ≡ Some e)
entry_within k [] p h = absurd (omega arith)
entry_within zero (e ∷ es) p h = absurd (omega arith)
entry_within (suc zero) (e ∷ es) p h = (e, refl)
entry_within (suc (suc k)) (e ∷ es) p h = entry_within (suc k) es (omega arith) (omega arith)
