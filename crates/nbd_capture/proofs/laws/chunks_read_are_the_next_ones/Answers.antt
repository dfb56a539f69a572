use Rattle.nbd_capture.proofs.ReadToEndLemmas.{next_of_text}
use Rattle.nbd_capture.proofs.laws.chunks_read_are_the_next_ones.Goals as goal

pub returns : goal.returns
returns c = next_of_text
