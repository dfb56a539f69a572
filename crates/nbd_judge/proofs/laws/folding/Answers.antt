use Rattle.nbd_judge.proofs.contents.ForwardLemmas.{folding}
use Rattle.nbd_judge.proofs.laws.folding.Goals as goal

pub returns : goal.returns
returns c = folding
