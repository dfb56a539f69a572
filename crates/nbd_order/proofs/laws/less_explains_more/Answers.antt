use Rattle.nbd_order.proofs.ChainLemmas.{explained_from_less, leaves_less}
use Rattle.nbd_order.proofs.laws.less_explains_more.Goals as goal

pub returns-clause-explained : goal.returns-clause-explained
returns-clause-explained c = explained_from_less c.reports_are_sound.ensures c.explained_exactly.ensures.passing c.explained_exactly.ensures.only

pub returns-clause-left : goal.returns-clause-left
returns-clause-left c = leaves_less
