use Rattle.nbd_state.proofs.Common.{◌≡◌, ◌||◌, list_all, is_settled_by, is_this}
use Rattle.nbd_state.proofs.selection.are_all.Given as goal

-- what is left says what all say
abbrev pub invariant-loop-i : goal.invariant-loop-i
invariant-loop-i l = record {
  rest : list_all (λ i. is_this l.id i || is_settled_by (record { filtered = l.outside; ids = l.others }) i) l.ids.keys
      ≡ list_all (λ i. is_this l.id i || is_settled_by (record { filtered = l.outside; ids = l.others }) i) l.i-iterator;
}
