use Rattle.nbd_order.proofs.NumberLemmas.{each_step}
use Rattle.nbd_order.proofs.refutation.Refutation.fits.Goals as goal

pub loop-k-preserved : goal.loop-k-preserved
loop-k-preserved c = each_step _ c.args.self.now.reads.items c.deref-k-items.result.now c.loop-k.k-index 0 c.deref-k-items.ensures.value
    c.loop-k-test.true c.loop-k.invariant (c.is_fitting.ensures c.if-not-is_fitting.false)
