use Rattle.nbd_session.proofs.Common.{tests, rules}
use Rattle.nbd_session.proofs.chunks.fits_read.Goals as goal

pub returns-then-not-is_to_be_whole : goal.returns-then-not-is_to_be_whole
returns-then-not-is_to_be_whole c = search (tests, rules)

pub returns-else-is_apart_from : goal.returns-else-is_apart_from
returns-else-is_apart_from c = search (tests, rules)
