use Rattle.nbd_capture.proofs.{Common.IsOrderLine, ReadingLemmas.no_reading}
use Rattle.nbd_capture.proofs.laws.no_order_with_a_bad_line.Goals as goal

pub returns : goal.returns
returns c = no_reading IsOrderLine
