use Rattle.nbd_lines.proofs.Common.{tests, rules}
use Rattle.nbd_lines.proofs.make_command.run_make.Goals as goal

pub returns-in_err-make-clause-cause : goal.returns-in_err-make-clause-cause
returns-in_err-make-clause-cause c = search (tests, rules)

pub returns-in_err-make-clause-left : goal.returns-in_err-make-clause-left
returns-in_err-make-clause-left c = search (tests, rules)

pub returns-clause-written : goal.returns-clause-written
returns-clause-written c = search (tests, rules)
