use Rattle.nbd_capture.proofs.{Common.IsCaptureLine, FormLemmas.one_saying, ReadingLemmas.one_reading}
use Rattle.nbd_capture.proofs.laws.one_capture_reading.Goals as goal

pub returns : goal.returns
returns c = one_reading IsCaptureLine one_saying
