use Rattle.nbd_tool.proofs.Common.{tests, rules}
use Rattle.nbd_tool.proofs.concluding.conclude_from.Goals as goal

pub returns-in-Longer-clause-verdict : goal.returns-in-Longer-clause-verdict
returns-in-Longer-clause-verdict c = search (tests, rules)

pub returns-in-Longer-clause-answers : goal.returns-in-Longer-clause-answers
returns-in-Longer-clause-answers c = search (tests, rules)
