use Rattle.nbd_wire.proofs.Common.{refl, has_only}
use Rattle.nbd_wire.proofs.flags.has_only.Goals as goal

pub returns : goal.returns
unfolding has_only
returns c = refl
