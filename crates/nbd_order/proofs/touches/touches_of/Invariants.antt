use Rattle.nbd_order.proofs.Common.{◌≡◌, ℕ, drop}
use Rattle.nbd_order.specs.internal.Here.{here_at, joined, requests_here, touches_here}
use Rattle.nbd_order.proofs.touches.touches_of.Given as goal

abbrev pub invariant-loop-i : goal.invariant-loop-i
invariant-loop-i l = (x : ℕ) → joined (touches_here l.touches.items x) (requests_here l.i (drop l.i l.transcript.asked) x) ≡ here_at l.transcript.asked x
