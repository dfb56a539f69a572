use Rattle.nbd_capture.proofs.{Common.{◌+◌, ◌*◌, arith, take_all}, NumeralLemmas.{all_with, no_digit, some_digits, too_large, with_digit}}
use Rattle.nbd_capture.proofs.order.number_on.Goals as goal

pub returns-then-not-is_ascii_digit : goal.returns-then-not-is_ascii_digit
returns-then-not-is_ascii_digit c = no_digit c.args.digits.now c.loop-i.i c.loop-i-test.true c.if-not-is_ascii_digit.ensures.cases

pub returns-in_err-checked_mul : goal.returns-in_err-checked_mul
returns-in_err-checked_mul c =
    let more = with_digit c.args.digits.now c.loop-i.i c.loop-i.number c.loop-i-test.true c.loop-i.invariant.0 c.if-not-is_ascii_digit.ensures.cases in
    rw c.from_residual.ensures (too_large c.args.digits.now (c.loop-i.i + 1) (c.loop-i.number * 10) (omega (arith, more)) c.in_err-checked_mul.ensures)

pub returns-in_err-number : goal.returns-in_err-number
returns-in_err-number c =
    let more = with_digit c.args.digits.now c.loop-i.i c.loop-i.number c.loop-i-test.true c.loop-i.invariant.0 c.if-not-is_ascii_digit.ensures.cases in
    rw c.from_residual-in_err-number.ensures (too_large c.args.digits.now (c.loop-i.i + 1) (c.in_ok-checked_mul.field-0 + c.from.result) (omega (arith, more, c.in_ok-checked_mul.ensures, c.from.ensures)) c.in_err-number.ensures)

pub loop-i-preserved : goal.loop-i-preserved
loop-i-preserved c = grind (arith, with_digit, all_with)

pub returns : goal.returns
returns c = grind (arith, take_all, some_digits)
