use Rattle.nbd_explain.proofs.{Common.{subst, sym, IfOk, IsToldBySearch}, ExplainedLemmas.map_ok}
use Rattle.nbd_explain.proofs.searching.told_by_search.Goals as goal

pub returns-in-Err : goal.returns-in-Err
returns-in-Err c =
    subst (λ finished. IfOk c.told_of_fault.result (λ told. IsToldBySearch c.args.profile c.args.start finished told.1 told.0.bytes.items)) (sym c.in-Err.is)
    (map_ok c.told_of_fault.result (λ told of. of c.args.profile c.args.start) c.told_of_fault.ensures)
