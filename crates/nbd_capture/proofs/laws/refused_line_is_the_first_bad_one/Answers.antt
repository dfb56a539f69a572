use Rattle.nbd_capture.proofs.ReadToEndLemmas.{first_bad}
use Rattle.nbd_capture.proofs.laws.refused_line_is_the_first_bad_one.Goals as goal

pub returns : goal.returns
returns c = first_bad
