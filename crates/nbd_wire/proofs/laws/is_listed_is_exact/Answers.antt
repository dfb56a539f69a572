use Rattle.nbd_wire.proofs.ListedFormLemmas.{is_listed-exact}
use Rattle.nbd_wire.proofs.laws.is_listed_is_exact.Goals as goal

pub returns : goal.returns
returns c = is_listed-exact
