use Rattle.nbd_order.proofs.{Common.{sym, subst, report_of_request, IsNoHelp}, StateLemmas.byte_is}
use Rattle.nbd_order.proofs.refutation.Refutation.helps_not.Goals as goal

pub returns-else-has : goal.returns-else-has
returns-else-has c = λ t got e change other.
    subst (λ b. IsNoHelp c.args.profile c.args.transcript.now c.args.self.now.offset c.args.self.now.changes.items c.args.w b c.args.k)
    (byte_is c.args.transcript.now c.args.w c.args.self.now.offset (report_of_request c.in-Some.one.now) e c.byte_left.result (sym c.in-Some.ensures) change.0 c.byte_left.ensures)
    (c.is_no_help.ensures t got)
