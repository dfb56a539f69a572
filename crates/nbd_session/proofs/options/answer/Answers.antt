use Rattle.nbd_session.proofs.{Common.{not, sym, ◌∙◌, ap, Answer, AnswerHead, answer_fault, answer_head_fault, expected_decision, exporting_if, then_some}, expecting.OptionLemmas.{bad_answer, good_answer, no_answer}, parsing.LeadingLemmas.leading_answer-is}
use Rattle.nbd_session.proofs.options.answer.Goals as goal

pub returns-in_default-clause-refused : goal.returns-in_default-clause-refused
returns-in_default-clause-refused c = λ selection.
    let head = c.args.head.now in
    no_answer head _ (sym c.in_default.is ∙ leading_answer-is head c.type_inv.head c.answer_head.result c.requires c.answer_head.ensures)

pub returns-in-Some-answer_fault-clause-refused : goal.returns-in-Some-answer_fault-clause-refused
returns-in-Some-answer_fault-clause-refused c = λ selection.
    let head = c.args.head.now in
    let h = c.in-Some.reply in
    let chosen = c.args.chosen in
    bad_answer head h (λ (h : AnswerHead). answer_head_fault c.args.profile chosen.option chosen.proper chosen.takes (exporting_if chosen.info) h.option h.kind h.length) c.in-Some-answer_fault.fault
    (sym c.in-Some.is ∙ leading_answer-is head c.type_inv.head c.answer_head.result c.requires c.answer_head.ensures)
    (ap (answer_fault chosen.option h.option) (sym c.kind_fault.ensures) ∙ sym c.answer_fault.ensures ∙ c.in-Some-answer_fault.is)

pub returns-in-None-clause-expected : goal.returns-in-None-clause-expected
returns-in-None-clause-expected c = λ now payload held.
    let head = c.args.head.now in
    let h = c.in-Some.reply in
    let chosen = c.args.chosen in
    good_answer head payload h c.requires (sym c.in-Some.is ∙ leading_answer-is head c.type_inv.head c.answer_head.result c.requires c.answer_head.ensures)
    c.args.profile chosen.option chosen.proper chosen.takes (exporting_if chosen.info) now held (ap (answer_fault chosen.option h.option) (sym c.kind_fault.ensures) ∙ sym c.answer_fault.ensures ∙ c.in-None.is)
    ∙ ap (λ given. expected_decision now (Answer h given) 20 payload) (sym (c.then_some.ensures ∙ ap (λ b. then_some (not b) chosen.proper) c.is_error.ensures))
