use Rattle.nbd_order.proofs.Common.{◌≡◌, ℕ, drop}
use Rattle.nbd_order.specs.internal.Here.{joined, pieces_here, touches_here}
use Rattle.nbd_order.proofs.touches.add_pieces.Given as goal

abbrev pub invariant-loop-i : goal.invariant-loop-i
invariant-loop-i l = (x : ℕ) → joined (touches_here l.touches.items x) (pieces_here l.number l.i (drop l.i l.one.pieces.items) x)
    ≡ joined (touches_here l.fn.touches.items x) (pieces_here l.number 0 l.one.pieces.items x)
