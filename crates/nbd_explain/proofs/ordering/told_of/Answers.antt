use Rattle.nbd_explain.proofs.Common.{IfOk, subst, sym, IsToldOf}
use Rattle.nbd_explain.proofs.ordering.told_of.Goals as goal

pub returns-in-Ok : goal.returns-in-Ok
returns-in-Ok c =
    subst (λ finished. IfOk c.told_of_report.result (λ told. IsToldOf c.args.profile c.args.start c.args.scope.wanted finished told.1 told.0.bytes.items)) (sym c.in-Ok.is) c.told_of_report.ensures
