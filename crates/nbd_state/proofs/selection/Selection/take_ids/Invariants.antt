use Rattle.nbd_state.proofs.Common.{ℕ, ◌≡◌, ◌&&◌, ◌||◌, false, not, length, contains, nat_cmp, are_once, has_id, is_among, ids_of, HasSelection}
use Rattle.nbd_wire.specs.protocol.Contexts as contexts
use Rattle.nbd_state.proofs.selection.Selection.take_ids.Given as goal

-- what was taken, and what the ids that are left say, is what all of them say
abbrev pub invariant-loop-id : goal.invariant-loop-id
invariant-loop-id l = (selection : contexts.Selection) → HasSelection l.fn.self selection → ((q : ℕ) → contains nat_cmp l.fn.asked q ≡ false) →
    ((l.once && are_once (λ i. has_id selection.contexts i && not (contains nat_cmp l.asked i)) (ids_of l.rest)) ≡ are_once (has_id selection.contexts) (ids_of l.fn.ids))
    × ((q : ℕ) → (contains nat_cmp l.asked q || (has_id selection.contexts q && is_among (ids_of l.rest) q)) ≡ (has_id selection.contexts q && is_among (ids_of l.fn.ids) q))

abbrev pub decreases-loop-id : goal.decreases-loop-id
decreases-loop-id l = length (ids_of l.rest)
