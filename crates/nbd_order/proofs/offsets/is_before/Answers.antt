use Rattle.nbd_order.proofs.{Common.{sym, report_of_request}, OffsetLemmas.ended_before}
use Rattle.nbd_order.proofs.offsets.is_before.Goals as goal

pub returns-then-is_below-2 : goal.returns-then-is_below-2
returns-then-is_below-2 c = λ t. ended_before c.args.profile c.args.transcript.now c.args.j c.args.k c.args.offset (report_of_request c.in-Some.one.now) (sym c.in-Some.ensures)
    (c.is_below.ensures c.if-is_below.true) (c.is_below-then-is_below.ensures t)
