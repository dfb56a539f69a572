use Rattle.nbd_capture.proofs.{Common.IsCaptureLine, TotalLemmas.decide_capture, TotalTextLemmas.told}
use Rattle.nbd_capture.proofs.laws.capture_or_bad_line.Goals as goal

pub returns : goal.returns
returns c = told IsCaptureLine decide_capture
