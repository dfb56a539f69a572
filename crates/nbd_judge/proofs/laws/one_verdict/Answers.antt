use Rattle.nbd_judge.proofs.verdicts.SingleLemmas.{one_verdict}
use Rattle.nbd_judge.proofs.laws.one_verdict.Goals as goal

pub returns : goal.returns
returns c = one_verdict
