use Rattle.nbd_explain.proofs.OutputLemmas.{one_output}
use Rattle.nbd_explain.proofs.laws.one_output.Goals as goal

pub returns : goal.returns
returns c = one_output
