use Rattle.nbd_order.proofs.StateLemmas.{fits_of, found_at, none_served}
use Rattle.nbd_order.proofs.refutation.Refutation.begins.Goals as goal

pub returns-then-has_none : goal.returns-then-has_none
returns-then-has_none c = λ t. (
  0,
  c.in-Some.state.now,
  found_at c.args.self.now.states.items c.deref.result.now 0 c.in-Some.state.now c.deref.ensures.value c.in-Some.ensures.lookup.0 c.in-Some.ensures.lookup.1,
  (
    none_served _ _ _ _ c.deref-in-Some.ensures.value c.deref-in-Some-2.ensures.value (c.has_none.ensures c.if-has_none.true),
    fits_of c.args.profile c.args.transcript.now c.args.self.now.offset c.args.self.now.reads.items c.args.self.now.changes.items _ _ _ _ c.deref-then-has_none.ensures.value c.start_byte.ensures (c.fits.ensures t),
  ),
)
