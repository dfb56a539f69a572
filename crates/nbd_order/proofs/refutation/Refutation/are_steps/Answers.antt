use Rattle.nbd_order.proofs.NumberLemmas.{each_step}
use Rattle.nbd_order.proofs.refutation.Refutation.are_steps.Goals as goal

pub loop-c-preserved : goal.loop-c-preserved
loop-c-preserved c = each_step _ c.args.self.now.changes.items c.deref-c-items.result.now c.loop-c.c-index 0 c.deref-c-items.ensures.value
    c.loop-c-test.true c.loop-c.invariant (c.is_step.ensures c.if-not-is_step.false)
