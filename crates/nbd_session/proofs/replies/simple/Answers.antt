use Rattle.nbd_session.proofs.{Common.{arith, ◌≡◌, sym, ◌∙◌, ap, slice_get, Some, rules, option_copied, simple_fault}, expecting.ReplyLemmas.{forbidden_of, simple_is}, parsing.ShownOperationLemmas.{copied_at, not_both}}
use Rattle.nbd_session.proofs.replies.simple.Goals as goal

pub returns-clause-expected : goal.returns-clause-expected
returns-clause-expected c = λ core export s p.
    let place = c.in-Some.place in
    let stands : slice_get c.args.state.now.exchanges.items place ≡ Some c.in-Some-get.exchange.now =
    ap (λ xs. slice_get xs place) (sym c.deref.ensures.value) ∙ sym (copied_at c.deref.result.now place c.get.result c.get.ensures.lookup) ∙ ap option_copied c.in-Some-get.is in
    simple_is export core c.args.counted place c.args.state.now.exchanges.items c.in-Some-get.exchange.now stands s.asked_with c.args.head c.simple_length-length.result (c.in-Some.ensures core export s p)
    (sym (c.is_simple_forbidden.ensures core s) ∙ c.if-is_simple_forbidden.false) c.simple_length-length.ensures

pub returns-then-is_simple_forbidden-clause-refused : goal.returns-then-is_simple_forbidden-clause-refused
returns-then-is_simple_forbidden-clause-refused c = λ core export s p.
    let place = c.in-Some.place in
    let stands : slice_get c.args.state.now.exchanges.items place ≡ Some c.in-Some-get.exchange.now =
    ap (λ xs. slice_get xs place) (sym c.deref.ensures.value) ∙ sym (copied_at c.deref.result.now place c.get.result c.get.ensures.lookup) ∙ ap option_copied c.in-Some-get.is in
    forbidden_of export core c.args.counted place c.args.state.now.exchanges.items c.in-Some-get.exchange.now stands s.asked_with c.args.head (c.in-Some.ensures core export s p)
    (sym (c.is_simple_forbidden.ensures core s) ∙ c.if-is_simple_forbidden.true)

pub returns-then-is_simple_forbidden-clause-expected : goal.returns-then-is_simple_forbidden-clause-expected
returns-then-is_simple_forbidden-clause-expected c = search rules

pub returns-in_default-clause-refused : goal.returns-in_default-clause-refused
returns-in_default-clause-refused c = λ core export s p. ap (λ to. simple_fault core.structured to c.args.head.error) (c.in_default.ensures core export s p)

pub returns-in_default-get-clause-refused : goal.returns-in_default-get-clause-refused
returns-in_default-get-clause-refused c = grind (arith, copied_at, not_both)
