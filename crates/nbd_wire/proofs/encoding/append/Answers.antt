use Rattle.nbd_wire.proofs.{Common.{length, arith, ap}, EncodingLemmas.length-tail}
use Rattle.nbd_wire.proofs.encoding.append.Goals as goal

pub overflow_cast-tail : goal.overflow_cast-tail
overflow_cast-tail c = omega (arith, length-tail c.args.message.now c.requires, ap length c.tail_of-tail.ensures)
