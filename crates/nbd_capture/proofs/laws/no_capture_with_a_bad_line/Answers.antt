use Rattle.nbd_capture.proofs.{Common.IsCaptureLine, ReadingLemmas.no_reading}
use Rattle.nbd_capture.proofs.laws.no_capture_with_a_bad_line.Goals as goal

pub returns : goal.returns
returns c = no_reading IsCaptureLine
