-- What is known of the parts of an encoding.
use Rattle.nbd_wire.proofs.Common.{◌<◌, ◌^◌, length, arith, Message, tail, IsSendable, cond_both, FitsItsHead}

-- four bytes hold the length of what follows a head
pub length-tail : (m : Message) → FitsItsHead m → length (tail m) < 2 ^ 32
unfolding tail FitsItsHead
length-tail m h = grind arith

-- what may be sent has an encoding
pub sendable-fits : (m : Message) → IsSendable m → FitsItsHead m
unfolding IsSendable FitsItsHead
sendable-fits m h = grind (arith, cond_both)
