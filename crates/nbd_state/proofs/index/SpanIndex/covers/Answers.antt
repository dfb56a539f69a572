use Rattle.nbd_state.proofs.{Common.size_from, IndexLemmas.bare-next}
use Rattle.nbd_state.proofs.index.SpanIndex.covers.Goals as goal

pub returns-then-held-eq0 : goal.returns-then-held-eq0
returns-then-held-eq0 c =
    bare-next (size_from c.args.self.now.sizes) c.args.span.offset c.args.span.size c.loop-covered.covered c.held_from-held.result c.loop-covered-test.true c.held_from-held.ensures c.if-held-eq0.true
