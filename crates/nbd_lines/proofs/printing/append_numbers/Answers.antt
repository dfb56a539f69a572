use Rattle.nbd_lines.proofs.{Common.{arith, err_from_is_err_and}, PrintedLemmas.{adds_again, all_printed, none_printed, one_printed}}
use Rattle.nbd_lines.proofs.printing.append_numbers.Goals as goal

pub loop-k-init : goal.loop-k-init
loop-k-init c = none_printed c.args.fields.now c.args.numbers.now c.args.out.now.items

pub returns-in_err-append_number-clause-err : goal.returns-in_err-append_number-clause-err
returns-in_err-append_number-clause-err c =
    let p = err_from_is_err_and c.from_residual.result c.from_residual.ensures.1 in
    rw p.1 (adds_again _ c.loop-k.out.items _ c.loop-k.invariant.added c.in_err-append_number.ensures.err)

pub loop-k-preserved : goal.loop-k-preserved
loop-k-preserved c =
    one_printed c.args.fields.now c.args.numbers.now c.loop-k.k c.args.out.now.items c.loop-k.out.items c.append_number.new.out.items _ _ c.loop-k-test.true (omega arith) c.loop-k.invariant c.in_ok-append_number.ensures.ok

pub returns-clause-ok : goal.returns-clause-ok
returns-clause-ok c = all_printed c.args.fields.now c.args.numbers.now c.loop-k.k c.args.out.now.items c.loop-k.out.items c.loop-k-test.false c.loop-k.invariant
