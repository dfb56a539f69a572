use Rattle.nbd_judge.proofs.{Common.{not, sym, ◌∙◌, ap, report_of_request, Asked, inside_in}, orders.TableLemmas.{all_due, ended, none_of, shown_due, some_of, started}, order.fault_of.Goals.{then-serves_by_chunk+else-is_none, else-serves_by_chunk+else-is_none-2}}
use Rattle.nbd_judge.proofs.order.fault_of.Goals as goal

pub returns-then-is_none : goal.returns-then-is_none
returns-then-is_none c r order k told sp sv =
    let a : Asked = report_of_request c.args.one.now in
    let f = c.fault_shown.ensures (inside_in r k) order k sp sv in
    shown_due c.args.profile r order k a told (sym c.serves_by_chunk.ensures.is ∙ c.if-serves_by_chunk.true) (none_of a.ended_at (c.is_none.ensures ∙ ap not c.if-is_none.true)) c.fault_shown.result f.1 f.0

pub returns : goal.returns
returns c r order k told sp sv =
    let a : Asked = report_of_request c.args.one.now in
    all_due c.args.profile r order k a told c.fault.result (elim c.if-serves_by_chunk.branch [
      | then-serves_by_chunk+else-is_none w ↦ (let n = some_of a.ended_at (w.is_none.ensures ∙ ap not w.if-is_none.false) in λ x. ended c.args.profile r order k a told n.0 x (sym c.serves_by_chunk.ensures.is ∙ w.if-serves_by_chunk.true) n.1)
      | else-serves_by_chunk+else-is_none-2 w ↦ (let n = some_of a.known_at (w.is_none-else-serves_by_chunk.ensures ∙ ap not w.if-is_none-2.false) in λ x. started c.args.profile r order k a told n.0 x (sym c.serves_by_chunk.ensures.is ∙ w.if-serves_by_chunk.false) n.1)
    ]) (c.fault.ensures c.args.inside (inside_in r k) order k sp sv)
