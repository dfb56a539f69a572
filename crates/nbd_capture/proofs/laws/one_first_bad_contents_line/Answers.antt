use Rattle.nbd_capture.proofs.ContentsTextLemmas.{one_first_bad}
use Rattle.nbd_capture.proofs.laws.one_first_bad_contents_line.Goals as goal

pub returns : goal.returns
returns c = one_first_bad
