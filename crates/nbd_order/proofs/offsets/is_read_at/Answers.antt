use Rattle.nbd_order.proofs.{Common.{sym, ◌∙◌, report_of_request}, OffsetLemmas.read_at}
use Rattle.nbd_order.proofs.offsets.is_read_at.Goals as goal

pub returns-in-Some : goal.returns-in-Some
returns-in-Some c = λ h. read_at c.args.profile c.args.transcript.now c.args.k c.args.offset (report_of_request c.in-Some.one.now) (sym c.in-Some.ensures) (sym c.reads_at.ensures ∙ h)
