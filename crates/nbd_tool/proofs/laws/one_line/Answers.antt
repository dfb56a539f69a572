use Rattle.nbd_tool.proofs.UniqueLemmas.{one_line}
use Rattle.nbd_tool.proofs.laws.one_line.Goals as goal

pub returns : goal.returns
returns c = one_line
