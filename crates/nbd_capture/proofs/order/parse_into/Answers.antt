use Rattle.nbd_capture.proofs.{Common.{◌∷◌, [], arith, IsOrderLine}, ProgressLemmas.{advance, cut_off, done, stopped}}
use Rattle.nbd_capture.proofs.order.parse_into.Goals as goal

pub returns-in_default-entry_on-clause-fault : goal.returns-in_default-entry_on-clause-fault
returns-in_default-entry_on-clause-fault c =
    stopped IsOrderLine c.args.text.now c.loop-line.rest.now c.in-Some.line.now c.in-Some.after.now c.loop-line.entries.items c.loop-line.line_number c.loop-line.invariant.0 c.in-Some.ensures.0 c.in-Some.ensures.1 c.in_default-entry_on.ensures

pub loop-line-preserved : goal.loop-line-preserved
loop-line-preserved c =
    let next = advance IsOrderLine c.args.text.now c.loop-line.rest.now c.in-Some.line.now c.in-Some.after.now c.loop-line.entries.items (c.in-Some-entry_on.entry ∷ []) c.loop-line.line_number c.loop-line.invariant.0 c.in-Some.ensures.0 c.in-Some.ensures.1 c.in-Some-entry_on.ensures in
    (rw c.in_ok-push.ensures.items next, omega (arith, c.in_ok-push.ensures.capacity, c.loop-line.invariant.1))

pub returns-then-is_empty-clause-entries : goal.returns-then-is_empty-clause-entries
returns-then-is_empty-clause-entries c =
    done IsOrderLine c.args.text.now c.loop-line.rest.now c.loop-line.entries.items c.loop-line.line_number c.loop-line.invariant.0 c.if-is_empty.ensures

pub returns-else-is_empty-clause-fault : goal.returns-else-is_empty-clause-fault
returns-else-is_empty-clause-fault c =
    cut_off IsOrderLine c.args.text.now c.loop-line.rest.now c.loop-line.entries.items c.loop-line.line_number c.loop-line.invariant.0 c.if-is_empty.ensures c.in_default.ensures
