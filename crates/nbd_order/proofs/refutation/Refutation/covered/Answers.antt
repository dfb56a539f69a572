use Rattle.nbd_order.proofs.NumberLemmas.{each_of_all, each_step}
use Rattle.nbd_order.proofs.refutation.Refutation.covered.Goals as goal

pub loop-k-preserved : goal.loop-k-preserved
loop-k-preserved c = each_step _ c.args.self.now.reads.items c.deref-k-items.result.now c.loop-k.k-index 0 c.deref-k-items.ensures.value
    c.loop-k-test.true c.loop-k.invariant (c.is_unhelped.ensures c.if-not-is_unhelped.false c.byte_got-got.ensures)

pub returns : goal.returns
returns c = λ t w e change other k kept. each_of_all _ c.args.self.now.reads.items c.deref-k-items.result.now c.loop-k.k-index c.deref-k-items.ensures.value
    c.loop-k-test.false c.loop-k.invariant k kept w e change other
