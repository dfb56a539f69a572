use Rattle.nbd_capture.proofs.ReadToEndLemmas.{whole_text}
use Rattle.nbd_capture.proofs.laws.chunks_read_to_the_end.Goals as goal

pub returns : goal.returns
returns c = whole_text
