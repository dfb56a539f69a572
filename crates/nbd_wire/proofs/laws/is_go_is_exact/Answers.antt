use Rattle.nbd_wire.proofs.ListedFormLemmas.{is_go-exact}
use Rattle.nbd_wire.proofs.laws.is_go_is_exact.Goals as goal

pub returns : goal.returns
returns c = is_go-exact
