use Rattle.nbd_export.proofs.Common.{◌<◌, ℕ, DifferAt}
use Rattle.nbd_export.proofs.slices.first_unequal.Given as goal

abbrev pub invariant-loop-i : goal.invariant-loop-i
invariant-loop-i l = (x : ℕ) → x < l.i → DifferAt l.a l.b x → ⊥
