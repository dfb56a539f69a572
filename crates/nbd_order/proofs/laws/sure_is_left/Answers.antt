use Rattle.nbd_order.proofs.SurenessLemmas.{sure_is_left, sure_of_less_is_left}
use Rattle.nbd_order.proofs.laws.sure_is_left.Goals as goal

pub returns-clause-sure : goal.returns-clause-sure
returns-clause-sure c = sure_is_left c.explained_exactly.ensures.only

pub returns-clause-less : goal.returns-clause-less
returns-clause-less c = sure_of_less_is_left c.explained_exactly.ensures.only
