use Rattle.nbd_wire.proofs.NumberLemmas.{bytes_of_number}
use Rattle.nbd_wire.proofs.laws.number_gives_its_bytes.Goals as goal

pub returns : goal.returns
returns c = bytes_of_number
