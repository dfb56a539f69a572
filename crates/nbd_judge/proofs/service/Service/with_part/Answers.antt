use Rattle.nbd_judge.proofs.{Common.{IfOk-weaker, subst, sym, AreParts, sizes_of}, orders.ServiceLemmas.no_parts}
use Rattle.nbd_judge.proofs.service.Service.with_part.Goals as goal

pub returns-in_ok-none-in-Unnamed : goal.returns-in_ok-none-in-Unnamed
returns-in_ok-none-in-Unnamed c =
    let spans = c.in_ok-none-in-Unnamed.field-0.value.spans in
    let none = c.in_ok-none-in-Unnamed.ensures in
    rw c.in-Unnamed.is (IfOk-weaker c.with_span.result _ _
    (λ after h within before k is_span unnamed. h within before k is_span
    (subst (λ left. AreParts (sizes_of spans) left c.args.inside before k) (sym none.1) (no_parts (sizes_of spans) c.args.inside before k none.0 unnamed))) c.with_span.ensures)
