use Rattle.nbd_laws.proofs.requests.EndingLemmas.{replies_end_as_they_start}
use Rattle.nbd_laws.proofs.laws.replies_end_as_they_start.Goals as goal

pub returns : goal.returns
returns c = replies_end_as_they_start
