use Rattle.nbd_state.proofs.Common.{arith, target}
use Rattle.nbd_state.proofs.state.State.of.Goals as goal

pub returns : goal.returns
unfolding target
returns c = grind arith
