use Rattle.nbd_export.proofs.Common.{◌≡◌, ◌≤◌, ℕ, ◌⊎◌, btree_map_len, kind_from}
use Rattle.nbd_export.proofs.starts.clear_between.Given as goal

abbrev pub invariant-loop-start : goal.invariant-loop-start
invariant-loop-start l = record {
  outside : (k : ℕ) → (k ≤ l.first) ⊎ (l.end ≤ k) → kind_from l.starts k ≡ kind_from l.initial.starts k;
  fewer : btree_map_len l.starts ≤ btree_map_len l.initial.starts;
}

abbrev pub decreases-loop-start : goal.decreases-loop-start
decreases-loop-start l = btree_map_len l.starts
