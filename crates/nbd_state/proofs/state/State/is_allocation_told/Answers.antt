use Rattle.nbd_state.proofs.Common.{◌∙◌, ap, sym, in_force, is_allocation_told}
use Rattle.nbd_state.proofs.state.State.is_allocation_told.Goals as goal

pub returns-in-Some : goal.returns-in-Some
returns-in-Some c = λ core s. c.is_allocation.ensures core s ∙ ap (is_allocation_told (in_force core)) (sym c.in-Some.ensures.1)

pub returns-in-None : goal.returns-in-None
returns-in-None c = λ core s. ap (is_allocation_told (in_force core)) (sym c.in-None.ensures)
