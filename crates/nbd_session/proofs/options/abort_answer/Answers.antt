use Rattle.nbd_session.proofs.{Common.{sym, ◌∙◌, ap, AnswerHead, abort_fault, answer_fault}, expecting.OptionLemmas.{bad_answer, good_abort, no_answer}, parsing.LeadingLemmas.leading_answer-is}
use Rattle.nbd_wire.specs.declared.options.TheConstants as options
use Rattle.nbd_session.proofs.options.abort_answer.Goals as goal

pub returns-in_default-clause-refused : goal.returns-in_default-clause-refused
returns-in_default-clause-refused c =
    let head = c.args.head.now in
    no_answer head _ (sym c.in_default.is ∙ leading_answer-is head c.type_inv.head c.answer_head.result c.requires c.answer_head.ensures)

pub returns-in-Some-answer_fault-clause-refused : goal.returns-in-Some-answer_fault-clause-refused
returns-in-Some-answer_fault-clause-refused c =
    let head = c.args.head.now in
    let h = c.in-Some.head in
    bad_answer head h (λ (h : AnswerHead). answer_fault options.ABORT h.option (abort_fault h.kind h.length)) c.in-Some-answer_fault.fault
    (sym c.in-Some.is ∙ leading_answer-is head c.type_inv.head c.answer_head.result c.requires c.answer_head.ensures)
    (ap (answer_fault options.ABORT h.option) (sym c.abort_fault.ensures) ∙ sym c.answer_fault.ensures ∙ c.in-Some-answer_fault.is)

pub returns-in-None-clause-expected : goal.returns-in-None-clause-expected
returns-in-None-clause-expected c = λ now payload.
    let head = c.args.head.now in
    let h = c.in-Some.head in
    good_abort head payload h c.requires (sym c.in-Some.is ∙ leading_answer-is head c.type_inv.head c.answer_head.result c.requires c.answer_head.ensures) now
    (ap (answer_fault options.ABORT h.option) (sym c.abort_fault.ensures) ∙ sym c.answer_fault.ensures ∙ c.in-None.is)
