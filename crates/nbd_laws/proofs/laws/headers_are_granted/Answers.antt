use Rattle.nbd_laws.proofs.runs.GrantedLemmas.{headers_are_granted, heads_are_in_force}
use Rattle.nbd_laws.proofs.laws.headers_are_granted.Goals as goal

pub returns-clause-granted : goal.returns-clause-granted
returns-clause-granted c = headers_are_granted

pub returns-clause-heads : goal.returns-clause-heads
returns-clause-heads c = heads_are_in_force
