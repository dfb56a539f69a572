use Rattle.nbd_lines.proofs.{Common.arith, NumberLemmas.{all_past, none_ahead, none_past, one_past}}
use Rattle.nbd_lines.proofs.fields.numbers_at.Goals as goal

pub loop-k-init : goal.loop-k-init
loop-k-init c = none_past c.args.fields.now c.args.text.now c.args.numbers.now

pub returns-in_err-number : goal.returns-in_err-number
returns-in_err-number c =
    rw c.from_residual.ensures (none_ahead c.args.fields.now c.args.text.now c.loop-k.k c.loop-k.numbers c.loop-k.rest.now _ c.loop-k-test.true c.loop-k.invariant c.in_err-number.ensures)

pub loop-k-preserved : goal.loop-k-preserved
loop-k-preserved c = grind (arith, one_past)

pub returns : goal.returns
returns c = all_past c.args.fields.now c.args.text.now c.loop-k.k c.loop-k.numbers c.loop-k.rest.now (omega arith) c.loop-k.invariant
