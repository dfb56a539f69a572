use Rattle.nbd_session.proofs.{Common.{subst, IsComplete, IsOfRun}, judge.RefusalLemmas.{is_complete, is_of_run}}
use Rattle.nbd_session.proofs.session.Session.into_messages.Goals as goal

pub returns-clause-run : goal.returns-clause-run
returns-clause-run c = subst IsOfRun c.self.view_is (is_of_run _ _ c.self.invariant.follows)

pub returns-clause-complete : goal.returns-clause-complete
returns-clause-complete c = subst IsComplete c.self.view_is (is_complete _ _ c.self.invariant.follows)
