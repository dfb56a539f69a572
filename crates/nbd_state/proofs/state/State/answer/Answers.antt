use Rattle.nbd_state.proofs.{Common.{◌∙◌, ap, refl, subst, Answer, next_phase, selection_after, sizing_after, HasSelection, phase_shown}, CompletionLemmas.on, PhaseLemmas.shows_answered}
use Rattle.nbd_state.proofs.state.State.answer.Goals as goal

pub returns-clause-shown : goal.returns-clause-shown
returns-clause-shown c = on c.answered.result (λ f core s may.
    shows_answered c.args.self.now _ core s c.args.option c.args.kind c.args.payload.now c.phase_after_reply-self.result c.grants_structured.result c.grants_extended.result _ c.after-self.result may
    (c.phase_after_reply-self.ensures core.phase c.args.option s.phase_is ∙ ap (λ p. phase_shown (next_phase core.phase (Answer c.args.option c.args.kind p))) c.as_slice-answer.ensures)
    c.grants_structured.ensures c.grants_extended.ensures
    (subst (λ p. HasSelection c.answered.new.self (selection_after core.phase c.args.kind p core.selection)) c.as_slice-answer.ensures (f core.selection core.phase s.selection_is s.phase_is))
    (c.after-self.ensures ∙ ap (λ p. sizing_after c.args.kind p c.args.self.now.sizing) c.as_slice-answer.ensures ∙ ap (sizing_after c.args.kind c.args.payload.now) s.sizing_is) refl)
    c.answered.ensures
