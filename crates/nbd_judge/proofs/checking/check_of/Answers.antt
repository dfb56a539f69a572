use Rattle.nbd_judge.proofs.{Common.{flat, initial_of, records_of}, verdicts.ChunkLemmas.conclusion_checked}
use Rattle.nbd_judge.proofs.checking.check_of.Goals as goal

pub returns-clause-verdict : goal.returns-clause-verdict
returns-clause-verdict c = conclusion_checked c.args.profile (flat (records_of c.args.chunks.now)) c.args.order.now (initial_of c.args.start) c.session_over-finished.result c.conclude.result
    c.session_over-finished.ensures.report c.session_over-finished.ensures.wire c.conclude.ensures.verdict c.conclude.ensures.answers
