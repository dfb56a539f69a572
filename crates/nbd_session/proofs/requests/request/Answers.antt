use Rattle.nbd_session.proofs.{Common.{arith, rules, sym, ◌∙◌, AreBytes-from_places}, expecting.RequestLemmas.{bad_request, beyond_request, good_request, no_request}}
use Rattle.nbd_session.proofs.requests.request.Goals as goal

pub returns-in_default-clause-refused : goal.returns-in_default-clause-refused
returns-in_default-clause-refused c = grind (arith, no_request)

pub returns-then-is_beyond-clause-refused : goal.returns-then-is_beyond-clause-refused
returns-then-is_beyond-clause-refused c = grind (arith, beyond_request)

pub returns-then-is_bad_disconnect-clause-refused : goal.returns-then-is_bad_disconnect-clause-refused
returns-then-is_bad_disconnect-clause-refused c = grind (arith, bad_request)

pub returns-clause-expected : goal.returns-clause-expected
returns-clause-expected c = λ now payload.
    let b = AreBytes-from_places c.args.head.now (λ i. omega (arith, c.type_inv.head i)) in
    good_request c.args.extended now c.args.head.now payload c.in-Some.head b c.requires (sym c.in-Some.is ∙ c.read_head.ensures)
    (sym c.is_beyond.ensures ∙ c.if-is_beyond.false) (sym c.is_bad_disconnect.ensures ∙ c.if-is_bad_disconnect.false)

pub returns-clause-refused : goal.returns-clause-refused
returns-clause-refused c = search rules
