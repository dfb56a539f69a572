use Rattle.nbd_session.proofs.Common.{tests, rules}
use Rattle.nbd_session.proofs.statuses.is_one_within.Goals as goal

pub returns-then-is_none : goal.returns-then-is_none
returns-then-is_none c = search (tests, rules)

pub returns-else-is_none : goal.returns-else-is_none
returns-else-is_none c = search (tests, rules)
