use Rattle.nbd_session.proofs.{Common.{arith, take-put_mid}, steps.IncomingLemmas.{head_with, none_of}}
use Rattle.nbd_session.proofs.incoming.Incoming.add.Goals as goal

pub returns-clause-bytes : goal.returns-clause-bytes
returns-clause-bytes c = grind (arith, head_with, none_of, take-put_mid)
