use Rattle.nbd_session.proofs.Common.{arith}
use Rattle.nbd_session.proofs.chunks.content_fault.Goals as goal

pub returns-then-not-fits_read : goal.returns-then-not-fits_read
returns-then-not-fits_read c = grind arith
