use Rattle.std.proofs.Common.{sym, ap}
use Rattle.nbd_state.specs.Transcripts.{report_of_request}
use Rattle.nbd_judge.specs.internal.{served_span}
use Rattle.nbd_judge.proofs.change.served.Goals as goal

pub returns-in-Some : goal.returns-in-Some
returns-in-Some c = ap (λ o. served_span o (report_of_request c.args.one.now)) (sym c.in-Some.is)

pub returns-in-None : goal.returns-in-None
returns-in-None c = ap (λ o. served_span o (report_of_request c.args.one.now)) (sym c.in-None.is)
