use Rattle.nbd_order.proofs.Common.{◌≡◌, ℕ, ◌<◌, Some, slice_get, State, IsUnfinished}
use Rattle.nbd_order.proofs.refutation.Refutation.ends.Given as goal

abbrev pub invariant-loop-state : goal.invariant-loop-state
invariant-loop-state l = (i : ℕ) (s : State) → i < l.state-index → slice_get l.self.states.items i ≡ Some s
    → IsUnfinished l.self.reads.items s.served.items
