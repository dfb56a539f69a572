use Rattle.nbd_order.proofs.Common.{◌≡◌, ◌≤◌, ◌+◌, ℕ, drop, length}
use Rattle.std.specs.{Prelude.{◌-◌}, Option.option_or}
use Rattle.nbd_order.specs.internal.Here.{joined_if, stretch_here}
use Rattle.nbd_order.proofs.stretches.merged.Given as goal

abbrev pub invariant-loop-i : goal.invariant-loop-i
invariant-loop-i l = record {
  earlier : l.i ≤ length l.earlier;
  later : l.j ≤ length l.later;
  stretches : (x : ℕ) → option_or (stretch_here l.stretches.items x) (joined_if (stretch_here (drop l.i l.earlier) x) (stretch_here (drop l.j l.later) x)) ≡ joined_if (stretch_here l.earlier x) (stretch_here l.later x);
}

abbrev pub decreases-loop-i : goal.decreases-loop-i
decreases-loop-i l = (length l.earlier - l.i) + (length l.later - l.j)
