use Rattle.nbd_wire.proofs.InfoFormLemmas.{info_of-reads}
use Rattle.nbd_wire.proofs.laws.info_of_is_exact.Goals as goal

pub returns : goal.returns
returns c = info_of-reads
