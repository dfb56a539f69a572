use Rattle.nbd_wire.proofs.Common.{refl, has}
use Rattle.nbd_wire.proofs.flags.has_long.Goals as goal

pub returns : goal.returns
unfolding has
returns c = refl
