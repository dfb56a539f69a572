use Rattle.nbd_state.proofs.{Common.{◌∙◌, ap, arith, refl, subst, agrees, choice_phase, selection_at, sizing_at, HasSelection, phase_shown}, CompletionLemmas.on, PhaseLemmas.shows_chosen, state.State.choice.Goals.{then-self, else-self}}
use Rattle.nbd_state.proofs.state.State.choice.Goals as goal

pub returns-clause-shown : goal.returns-clause-shown
returns-clause-shown c = on c.choose.result (λ f core s may.
    shows_chosen c.args.self.now _ core s c.args.id c.args.payload.now c.chosen-self.result _ _ c.at-self.result may
    (c.chosen-self.ensures ∙ ap (λ p. phase_shown (choice_phase c.args.id p)) c.as_slice-with.ensures)
    (elim c.if-self.branch [
      | then-self w ↦ (
          let structured = s.structured_is in
          let agreed = w.agrees-self.ensures core.selection s.selection_is ∙ ap (λ p. agrees c.args.id p core.selection) c.as_slice-with.ensures in
          grind arith)
      | else-self w ↦ (let structured = s.structured_is in grind arith)
    ])
    (subst (λ p. HasSelection c.choose.new.self (selection_at c.args.id p core.selection)) c.as_slice-with.ensures (f core.selection s.selection_is))
    (c.at-self.ensures ∙ ap (sizing_at c.args.id) c.as_slice-with.ensures) refl)
    c.choose.ensures
