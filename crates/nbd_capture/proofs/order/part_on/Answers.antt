use Rattle.nbd_capture.proofs.OrderLineLemmas.{no_numbers, no_part}
use Rattle.nbd_capture.proofs.order.part_on.Goals as goal

pub returns-in_err-first : goal.returns-in_err-first
returns-in_err-first c = rw c.from_residual.ensures (no_part c.args.text.now (c.in_err-first.ensures))

pub returns-in_default : goal.returns-in_default
returns-in_default c =
    let none = c.in_default.ensures' in
    no_numbers c.args.text.now c.in_ok-first.first.now c.in_ok-first.second.now (c.in_ok-first.ensures).0 (c.in_ok-first.ensures).1 (λ m n a b. none n b)

pub returns-in_default-2 : goal.returns-in_default-2
returns-in_default-2 c =
    let none = rw c.in_default.is-0 at c.number_on.ensures in
    no_numbers c.args.text.now c.in_ok-first.first.now c.in_ok-first.second.now (c.in_ok-first.ensures).0 (c.in_ok-first.ensures).1 (λ m n a b. none m a)
