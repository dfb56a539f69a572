use Rattle.nbd_session.proofs.{Common.{rules, sym, ◌∙◌}, expecting.OptionLemmas.{good_choice, no_choice}, parsing.LeadingLemmas.leading_choice-is}
use Rattle.nbd_session.proofs.options.choice.Goals as goal

pub returns-in-None-clause-refused : goal.returns-in-None-clause-refused
returns-in-None-clause-refused c =
    let head = c.args.head.now in
    no_choice head (sym c.in-None.is ∙ leading_choice-is head c.type_inv.head c.choice_head.result c.requires c.choice_head.ensures)

pub returns-in-Some-clause-expected : goal.returns-in-Some-clause-expected
returns-in-Some-clause-expected c = λ now payload.
    let head = c.args.head.now in
    good_choice head payload c.in-Some.head now c.requires (sym c.in-Some.is ∙ leading_choice-is head c.type_inv.head c.choice_head.result c.requires c.choice_head.ensures)

pub returns-in-None-clause-expected : goal.returns-in-None-clause-expected
returns-in-None-clause-expected c = search rules
