use Rattle.nbd_session.proofs.{Common.{sym, ◌∙◌, ap, request_head_length, request_head_of}, parsing.LeadingLemmas.{leading_extended_request-is, leading_request-is}}
use Rattle.nbd_session.proofs.requests.read_head.Goals as goal

pub returns-then-extended : goal.returns-then-extended
returns-then-extended c =
    let head = c.args.head.now in
    leading_extended_request-is head c.type_inv.head c.extended_request_head.result (c.requires ∙ ap request_head_length c.if-extended.true) c.extended_request_head.ensures
    ∙ ap (λ x. request_head_of x head) (sym c.if-extended.true)

pub returns-else-extended : goal.returns-else-extended
returns-else-extended c =
    let head = c.args.head.now in
    leading_request-is head c.type_inv.head c.request_head.result (c.requires ∙ ap request_head_length c.if-extended.false) c.request_head.ensures
    ∙ ap (λ x. request_head_of x head) (sym c.if-extended.false)
