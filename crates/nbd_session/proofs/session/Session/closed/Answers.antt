use Rattle.nbd_session.proofs.{Common.{subst, IsComplete}, judge.RefusalLemmas.is_complete}
use Rattle.nbd_session.proofs.session.Session.closed.Goals as goal

pub returns-clause-complete : goal.returns-clause-complete
returns-clause-complete c = subst IsComplete c.self.view_is (is_complete _ _ c.self.invariant.follows)
