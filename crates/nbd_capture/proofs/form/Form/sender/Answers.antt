use Rattle.nbd_capture.proofs.{Common.{arith, refl, subst, ◌∙◌, ap, Digits, IsOf}, SpellLemmas.{bad, letter_alone, odd_digits, sent, silent}}
use Rattle.nbd_capture.proofs.form.Form.sender.Goals as goal

pub returns-in-Empty-clause-said : goal.returns-in-Empty-clause-said
returns-in-Empty-clause-said c = λ bytes line h. silent c.args.self bytes line c.in-Empty.is h

pub returns-in-None-clause-said : goal.returns-in-None-clause-said
returns-in-None-clause-said c = grind (arith, sent)

pub returns-in-Some-clause-fault : goal.returns-in-Some-clause-fault
returns-in-Some-clause-fault c = λ bytes line h.
    (refl, odd_digits c.in-Digits.side c.in-Some.field-0 bytes line (subst (λ f. IsOf f bytes line) (c.in-Digits.is ∙ ap (Digits c.in-Digits.side) c.in-Some.is) h))

pub returns-in-Letter-clause-fault : goal.returns-in-Letter-clause-fault
returns-in-Letter-clause-fault c = λ bytes line h. (refl, letter_alone c.in-Letter.field-0 bytes line (subst (λ f. IsOf f bytes line) c.in-Letter.is h))

pub returns-in-Bad-clause-fault : goal.returns-in-Bad-clause-fault
returns-in-Bad-clause-fault c = λ bytes line h. (refl, bad bytes line (subst (λ f. IsOf f bytes line) c.in-Bad.is h))
