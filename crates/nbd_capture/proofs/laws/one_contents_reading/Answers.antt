use Rattle.nbd_capture.proofs.ContentsTextLemmas.{one_reading}
use Rattle.nbd_capture.proofs.laws.one_contents_reading.Goals as goal

pub returns : goal.returns
returns c = one_reading
