use Rattle.nbd_order.proofs.Common.{◌≡◌, ℕ, ◌<◌, Some, slice_get, State, AreSteps}
use Rattle.nbd_order.proofs.refutation.Refutation.steps.Given as goal

abbrev pub invariant-loop-state : goal.invariant-loop-state
invariant-loop-state l = (i : ℕ) (s : State) → i < l.state-index → slice_get l.self.states.items i ≡ Some s
    → AreSteps l.profile l.transcript l.self.offset l.self.reads.items l.self.changes.items l.self.states.items s.served.items
