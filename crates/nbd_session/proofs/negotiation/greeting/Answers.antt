use Rattle.nbd_session.proofs.{Common.{sym, ◌∙◌}, expecting.NegotiationLemmas.{good_greeting, no_greeting, old_greeting}, parsing.LeadingLemmas.leading_greeting-is}
use Rattle.nbd_session.proofs.negotiation.greeting.Goals as goal

pub returns-in_default-clause-refused : goal.returns-in_default-clause-refused
returns-in_default-clause-refused c =
    let head = c.args.head.now in
    no_greeting head (sym c.in_default.is ∙ leading_greeting-is head c.type_inv.head c.greeting_head.result c.requires c.greeting_head.ensures)

pub returns-then-not-has-clause-refused : goal.returns-then-not-has-clause-refused
returns-then-not-has-clause-refused c =
    let head = c.args.head.now in
    old_greeting head c.in-Some.flags (sym c.in-Some.is ∙ leading_greeting-is head c.type_inv.head c.greeting_head.result c.requires c.greeting_head.ensures)
    (sym c.has.ensures ∙ c.if-not-has.true)

pub returns-clause-expected : goal.returns-clause-expected
returns-clause-expected c = λ now payload.
    let head = c.args.head.now in
    good_greeting head payload c.in-Some.flags now c.requires (sym c.in-Some.is ∙ leading_greeting-is head c.type_inv.head c.greeting_head.result c.requires c.greeting_head.ensures)
    (sym c.has.ensures ∙ c.if-not-has.false)
