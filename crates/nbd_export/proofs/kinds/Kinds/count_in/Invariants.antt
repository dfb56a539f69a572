use Rattle.nbd_export.proofs.Common.{◌≡◌, ◌-◌, ◌≤◌, ◌⊎◌, IsSome, kind_from, ranges_met}
use Rattle.nbd_export.proofs.kinds.Kinds.count_in.Given as goal

abbrev pub invariant-loop-at : goal.invariant-loop-at
invariant-loop-at l = record {
  from : l.first ≤ l.at;
  to : (l.at ≡ l.first) ⊎ (l.at ≤ l.end);
  few : l.count ≤ l.at - l.first;
  met : l.count ≡ ranges_met (kind_from l.self.starts) l.first (l.at - l.first);
  begun : (l.at - l.first ≡ 0) ⊎ ((l.at ≡ l.end) ⊎ IsSome (kind_from l.self.starts l.at));
}

abbrev pub decreases-loop-at : goal.decreases-loop-at
decreases-loop-at l = l.end - l.at
