use Rattle.nbd_judge.proofs.verdicts.ProfileLemmas.{verdicts_agree}
use Rattle.nbd_judge.proofs.laws.verdicts_agree.Goals as goal

pub returns : goal.returns
returns c = verdicts_agree
