use Rattle.nbd_order.proofs.StateLemmas.{found_in, leads_of}
use Rattle.nbd_order.proofs.refutation.Refutation.leads_on.Goals as goal

pub returns-then-leads : goal.returns-then-leads
returns-then-leads c = λ t. (
  c.loop-next.next-index,
  c.next-item.result,
  found_in c.args.self.now.states.items c.deref-next-items.result.now c.loop-next.next-index c.next-item.result c.deref-next-items.ensures.value
      c.loop-next-test.true c.next-item.is,
  leads_of c.args.profile c.args.transcript.now c.args.self.now.offset c.args.self.now.reads.items c.args.self.now.changes.items _ c.args.c _ _
      c.deref.ensures.value (c.leads.ensures c.if-leads.true),
)
