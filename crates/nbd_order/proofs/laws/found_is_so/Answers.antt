use Rattle.nbd_order.proofs.FoundLemmas.{found_is_so}
use Rattle.nbd_order.proofs.laws.found_is_so.Goals as goal

pub returns : goal.returns
returns c = found_is_so c.explained_exactly.ensures.passing c.explained_exactly.ensures.only c.refuted_is_unexplained.ensures
