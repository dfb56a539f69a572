use Rattle.nbd_session.proofs.{Common.{sym, ◌∙◌}, expecting.ReplyLemmas.chunk_is}
use Rattle.nbd_session.proofs.replies.chunk.Goals as goal

pub returns-clause-expected : goal.returns-clause-expected
returns-clause-expected c = λ core export s p.
    chunk_is export core c.args.counted c.in-Some.place c.args.state.now.exchanges.items c.args.head (sym c.is_too_long.ensures ∙ c.if-is_too_long.false) (c.in-Some.ensures core export s p) (sym s.structured_is ∙ c.if-not-state.false)
