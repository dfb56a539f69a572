use Rattle.nbd_capture.proofs.{Common.IsCaptureLine, ReadingLemmas.one_first_bad}
use Rattle.nbd_capture.proofs.laws.one_first_bad_capture_line.Goals as goal

pub returns : goal.returns
returns c = one_first_bad IsCaptureLine
