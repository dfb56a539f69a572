use Rattle.nbd_explain.proofs.{ExplainedLemmas.map_ok, ContentsLemmas.left_over}
use Rattle.nbd_explain.proofs.contents.left_over.Goals as goal

pub returns-clause-left : goal.returns-clause-left
returns-clause-left g c =
    map_ok c.left_behind.result (λ l of. λ initial is.
    left_over c.args.profile g.O.Read.remaining (g.C.Read.remaining c.args.capture) c.args.order initial c.in_ok-finished.ensures.finish.session c.in_ok-finished.finished l c.verdicts_answer_runs.ensures
    c.in_ok-finished.ensures.finish.over c.in_ok-finished.ensures.finish.fault c.in_ok-finished.ensures.finish.report c.in_ok-finished.ensures.finish.wire (of initial is))
    c.left_behind.ensures.left
