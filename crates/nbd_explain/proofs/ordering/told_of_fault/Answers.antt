use Rattle.nbd_explain.proofs.{Common.{Err, ap}, OrderingLemmas.told_refused}
use Rattle.nbd_explain.proofs.ordering.told_of_fault.Goals as goal

pub returns-in_ok-text-in-Wire : goal.returns-in_ok-text-in-Wire
returns-in_ok-text-in-Wire c = λ profile beginning wanted.
    told_refused profile beginning wanted c.in-Wire.at c.in-Wire.fault (Err c.args.fault) c.in_ok-text-in-Wire.text.bytes.items (ap Err c.in-Wire.is) c.in_ok-text-in-Wire.ensures
