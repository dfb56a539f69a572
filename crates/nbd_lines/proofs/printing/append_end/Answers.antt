use Rattle.nbd_lines.proofs.{Common.arith, PrintedLemmas.end_printed}
use Rattle.nbd_lines.proofs.printing.append_end.Goals as goal

pub returns-clause-ok : goal.returns-clause-ok
returns-clause-ok c = grind (arith, end_printed)
