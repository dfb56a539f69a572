use Rattle.nbd_capture.proofs.{Common.IsOrderLine, ReadingLemmas.one_first_bad}
use Rattle.nbd_capture.proofs.laws.one_first_bad_order_line.Goals as goal

pub returns : goal.returns
returns c = one_first_bad IsOrderLine
