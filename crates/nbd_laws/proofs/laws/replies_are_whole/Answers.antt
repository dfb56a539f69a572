use Rattle.nbd_laws.proofs.requests.ReplyLemmas.{replies_are_whole}
use Rattle.nbd_laws.proofs.laws.replies_are_whole.Goals as goal

pub returns : goal.returns
returns c = replies_are_whole
