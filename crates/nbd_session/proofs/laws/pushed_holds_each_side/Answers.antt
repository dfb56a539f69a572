use Rattle.nbd_session.proofs.pushed.HoldingLemmas.{pushed_holds_each_side}
use Rattle.nbd_session.proofs.laws.pushed_holds_each_side.Goals as goal

pub returns : goal.returns
returns c = pushed_holds_each_side
