use Rattle.nbd_session.proofs.{Common.{completed, sent, take}, pushed.FollowLemmas.adds_step}
use Rattle.nbd_session.proofs.monitor.Monitor.pass.Goals as goal

pub returns-clause-adds : goal.returns-clause-adds
returns-clause-adds c = λ past st. (
  completed (sent past c.args.side (take c.step-count.result.0 c.args.left.now)) c.step-count.result.1,
  c.step-count.ensures.kept past st,
  adds_step past c.args.side c.step-count.result.0 c.args.left.now c.step-count.result.1,
)
