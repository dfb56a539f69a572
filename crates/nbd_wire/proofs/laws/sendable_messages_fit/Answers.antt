use Rattle.nbd_wire.proofs.EncodingLemmas.{sendable-fits}
use Rattle.nbd_wire.proofs.laws.sendable_messages_fit.Goals as goal

pub returns : goal.returns
returns c = sendable-fits
