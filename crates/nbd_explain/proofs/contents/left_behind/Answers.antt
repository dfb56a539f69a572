use Rattle.nbd_explain.proofs.{ExplainedLemmas.map_ok, ContentsLemmas.left_read}
use Rattle.nbd_explain.proofs.contents.left_behind.Goals as goal

pub returns-clause-left : goal.returns-clause-left
returns-clause-left g c =
    map_ok c.left_of.result (λ l of. λ known is.
    left_read c.args.profile g.O.Read.remaining c.args.finished.now c.args.order c.in_ok-entries.entries known c.in_ok-entries.start l c.in_ok-entries.ensures.entries
    (c.in_ok-entries.ensures.start known is) of)
    c.left_of.ensures.left
