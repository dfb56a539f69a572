use Rattle.nbd_judge.proofs.verdicts.UniqueLemmas.{one_answer}
use Rattle.nbd_judge.proofs.laws.one_answer.Goals as goal

pub returns : goal.returns
returns c = one_answer
