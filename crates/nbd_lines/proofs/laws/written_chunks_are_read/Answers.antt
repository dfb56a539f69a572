use Rattle.nbd_lines.proofs.WrittenLemmas.{written_chunks}
use Rattle.nbd_lines.proofs.laws.written_chunks_are_read.Goals as goal

pub returns : goal.returns
returns c = written_chunks
