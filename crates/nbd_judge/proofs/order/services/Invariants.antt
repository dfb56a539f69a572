use Rattle.nbd_judge.proofs.Common.{AreServices}
use Rattle.nbd_judge.proofs.order.services.Given as goal

abbrev pub invariant-loop-i : goal.invariant-loop-i
invariant-loop-i l = AreServices l.transcript l.order l.i l.table.items
