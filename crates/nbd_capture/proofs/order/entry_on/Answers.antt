use Rattle.nbd_capture.proofs.{Common.{subst, sym, ◌∷◌, [], Some, IsOrderLine, atomically, of_part}, OrderLineLemmas.{no_number, no_parted}}
use Rattle.nbd_capture.proofs.order.entry_on.Goals as goal

pub returns-in_err-request-in-None : goal.returns-in_err-request-in-None
returns-in_err-request-in-None c = rw c.from_residual.ensures (no_number c.args.line.now c.in-None.ensures c.in_err-request-in-None.ensures)

pub returns-in_err-request-in-Some : goal.returns-in_err-request-in-Some
returns-in_err-request-in-Some c =
    rw c.from_residual-in_err-request-in-Some.ensures (no_parted c.args.line.now c.in-Some.digits.now c.in-Some.text.now c.in-Some.ensures.0 c.in-Some.ensures.1
    (λ k p a b. c.in_err-request-in-Some.ensures k a))

pub returns-in_err-part-in-Some : goal.returns-in_err-part-in-Some
returns-in_err-part-in-Some c =
    rw c.from_residual-in_err-part-in-Some.ensures (no_parted c.args.line.now c.in-Some.digits.now c.in-Some.text.now c.in-Some.ensures.0 c.in-Some.ensures.1
    (λ k p a b. c.in_err-part-in-Some.ensures p b))

pub returns-in_ok-request-in-None : goal.returns-in_ok-request-in-None
returns-in_ok-request-in-None c = atomically c.args.line.now c.in_ok-request-in-None.request c.in_ok-request-in-None.ensures

pub returns-in_ok-part-in-Some : goal.returns-in_ok-part-in-Some
returns-in_ok-part-in-Some c =
    subst (λ l. IsOrderLine l (record { request = c.in_ok-request-in-Some.request; part = Some c.in_ok-part-in-Some.part } ∷ [])) (sym c.in-Some.ensures.1)
    (of_part c.in-Some.digits.now c.in-Some.text.now c.in_ok-request-in-Some.request c.in_ok-part-in-Some.part c.in_ok-request-in-Some.ensures c.in_ok-part-in-Some.ensures)
