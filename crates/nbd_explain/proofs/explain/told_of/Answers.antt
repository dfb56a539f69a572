use Rattle.nbd_explain.proofs.ExplainedLemmas.{told_given}
use Rattle.nbd_explain.proofs.explain.told_of.Goals as goal

pub returns-clause-told : goal.returns-clause-told
returns-clause-told g c =
    λ known finish. λ initial is.
    told_given known g.O.Read.remaining c.args.order c.in_ok-entries.entries initial c.args.finished finish c.in_ok-entries.start (c.in_ok-entries.ensures.start initial is)
    c.in_ok-told.told.1 c.in_ok-told.told.0.bytes.items c.in_ok-entries.ensures.entries c.in_ok-told.ensures
