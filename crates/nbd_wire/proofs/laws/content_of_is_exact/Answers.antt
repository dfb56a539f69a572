use Rattle.nbd_wire.proofs.ChunkFormLemmas.{content_of-reads}
use Rattle.nbd_wire.proofs.laws.content_of_is_exact.Goals as goal

pub returns : goal.returns
returns c = content_of-reads
