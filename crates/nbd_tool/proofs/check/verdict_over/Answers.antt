use Rattle.nbd_tool.proofs.JudgedLemmas.{with_entries}
use Rattle.nbd_tool.proofs.check.verdict_over.Goals as goal

pub returns-clause-verdict : goal.returns-clause-verdict
returns-clause-verdict g c =
    with_entries _ c.args.profile (g.O.Read.remaining c.args.order.now) c.args.finished c.in_ok-order.order.items c.as_slice.result.now c.verdict_from.result
    c.as_slice.ensures.value c.in_ok-order.ensures.text c.verdict_from.ensures.verdict
