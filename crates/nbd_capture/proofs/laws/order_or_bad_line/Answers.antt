use Rattle.nbd_capture.proofs.{Common.IsOrderLine, TotalLemmas.decide_order, TotalTextLemmas.told}
use Rattle.nbd_capture.proofs.laws.order_or_bad_line.Goals as goal

pub returns : goal.returns
returns c = told IsOrderLine decide_order
