use Rattle.nbd_state.proofs.Common.{◌≤◌, ◌-◌, Covers, size_from}
use Rattle.nbd_state.proofs.index.SpanIndex.covers.Given as goal

abbrev pub invariant-loop-covered : goal.invariant-loop-covered
invariant-loop-covered l = record {
  within : l.covered ≤ l.span.size;
  covers : Covers (size_from l.self.sizes) l.span.offset l.covered;
}

abbrev pub decreases-loop-covered : goal.decreases-loop-covered
decreases-loop-covered l = l.span.size - l.covered
