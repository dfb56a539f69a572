use Rattle.nbd_lines.proofs.{Common.{arith, ◌≡◌, true, false, IsValidUpTo, valid_up_to}, DecimalLemmas.{not_utf8, plain_digits_parse, plain_as_decimal, utf8_as_decimal, utf8_text}}
use Rattle.nbd_lines.proofs.fields.number_of.Goals as goal

pub returns-then-not-begins_plainly : goal.returns-then-not-begins_plainly
returns-then-not-begins_plainly c = λ n fits e. let h : false ≡ true = c.if-not-begins_plainly.ensures.1 (plain_as_decimal c.args.digits.now n fits e) in cc h

pub returns-in_err-text : goal.returns-in_err-text
returns-in_err-text c =
    rw c.from_residual.ensures (λ n fits e. not_utf8 (λ e. IsValidUpTo c.args.digits.now (valid_up_to e)) c.args.digits.now c.from_utf8.result c.in_err-text.ensures.variant c.from_utf8.ensures.cases (utf8_as_decimal c.args.digits.now n fits e))

pub returns : goal.returns
returns c = grind (arith, utf8_text, plain_digits_parse)
