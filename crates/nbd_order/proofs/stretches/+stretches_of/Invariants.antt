use Rattle.nbd_order.proofs.Common.{length}
use Rattle.nbd_order.proofs.stretches.+stretches_of.Given as goal

abbrev pub decreases-stretches_of : goal.decreases-stretches_of
decreases-stretches_of l = length l.touches.now
