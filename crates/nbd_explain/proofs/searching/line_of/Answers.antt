use Rattle.nbd_explain.proofs.Common.{subst, HasVerdictLine}
use Rattle.nbd_explain.proofs.searching.line_of.Goals as goal

pub returns-in_ok-format-in-Order : goal.returns-in_ok-format-in-Order
returns-in_ok-format-in-Order c =
    let has : HasVerdictLine c.args.profile c.args.transcript c.deref.result.now c.args.start c.in_ok-format-in-Order.field-0.bytes.items = record {
      verdict = c.in_ok-verdict-in-Order.verdict;
      is_line = c.in_ok-format-in-Order.ensures.ok;
      concludes = c.in_ok-verdict-in-Order.ensures.verdict;
      answers = c.in_ok-verdict-in-Order.ensures.answers;
    } in
    rw c.in-Order.is (subst (λ entries. HasVerdictLine c.args.profile c.args.transcript entries c.args.start c.in_ok-format-in-Order.field-0.bytes.items) c.deref.ensures.value has)
