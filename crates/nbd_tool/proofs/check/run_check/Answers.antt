use Rattle.nbd_tool.proofs.Common.{tests, rules}
use Rattle.nbd_tool.proofs.check.run_check.Goals as goal

pub returns-clause-written : goal.returns-clause-written
returns-clause-written c = search (tests, rules)

pub returns-clause-exactly : goal.returns-clause-exactly
returns-clause-exactly c = search (tests, rules)

pub returns-clause-yes : goal.returns-clause-yes
returns-clause-yes c = search (tests, rules)

pub returns-clause-left : goal.returns-clause-left
returns-clause-left c = search (tests, rules)
