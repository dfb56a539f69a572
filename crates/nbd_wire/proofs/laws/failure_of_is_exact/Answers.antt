use Rattle.nbd_wire.proofs.ChunkFormLemmas.{failure_of-reads}
use Rattle.nbd_wire.proofs.laws.failure_of_is_exact.Goals as goal

pub returns : goal.returns
returns c = failure_of-reads
