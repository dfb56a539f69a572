use Rattle.nbd_capture.proofs.{Common.IsOrderLine, OrderLineLemmas.one_entry, ReadingLemmas.one_reading}
use Rattle.nbd_capture.proofs.laws.one_order_reading.Goals as goal

pub returns : goal.returns
returns c = one_reading IsOrderLine one_entry
