use Rattle.nbd_judge.proofs.verdicts.SingleLemmas.{one_judgement}
use Rattle.nbd_judge.proofs.laws.one_judgement.Goals as goal

pub returns : goal.returns
returns c = one_judgement
