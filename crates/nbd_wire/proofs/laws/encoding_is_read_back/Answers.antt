use Rattle.nbd_wire.proofs.RoundTripLemmas.{read_back}
use Rattle.nbd_wire.proofs.laws.encoding_is_read_back.Goals as goal

pub returns : goal.returns
returns c = read_back
