use Rattle.nbd_order.proofs.StateLemmas.{each_state, each_state_more, steps_of}
use Rattle.nbd_order.proofs.refutation.Refutation.steps.Goals as goal

pub loop-state-preserved : goal.loop-state-preserved
loop-state-preserved c = each_state_more _ c.args.self.now.states.items c.deref-state-items.result.now c.loop-state.state-index c.deref-state-items.ensures.value
    c.state-item.result c.state-item.is c.loop-state.invariant
    (steps_of c.args.profile c.args.transcript.now c.args.self.now.offset c.args.self.now.reads.items c.args.self.now.changes.items c.args.self.now.states.items _ _
    c.deref.ensures.value (c.are_steps.ensures c.if-not-are_steps.false))

pub returns : goal.returns
returns c = λ t. each_state _ c.args.self.now.states.items c.deref-state-items.result.now c.loop-state.state-index c.deref-state-items.ensures.value
    c.loop-state-test.false c.loop-state.invariant
