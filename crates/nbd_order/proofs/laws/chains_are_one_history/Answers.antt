use Rattle.nbd_order.proofs.ChainLemmas.{chains_are_one_history}
use Rattle.nbd_order.proofs.laws.chains_are_one_history.Goals as goal

pub returns : goal.returns
returns c = chains_are_one_history c.reports_are_sound.ensures c.explained_exactly.ensures.passing c.explained_exactly.ensures.only
