use Rattle.nbd_order.proofs.SplitLawLemmas.{splits_are_explained, splits_leave_the_same}
use Rattle.nbd_order.proofs.laws.splits_are_explained.Goals as goal

pub returns-clause-explained : goal.returns-clause-explained
returns-clause-explained c = splits_are_explained c.reports_are_sound.ensures c.explained_exactly.ensures.passing c.explained_exactly.ensures.only

pub returns-clause-left : goal.returns-clause-left
returns-clause-left c = splits_leave_the_same c.reports_are_sound.ensures c.explained_exactly.ensures.only
