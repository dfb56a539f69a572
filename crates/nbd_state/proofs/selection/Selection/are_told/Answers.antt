use Rattle.nbd_state.proofs.Common.{◌∙◌, ◌||◌, ap, sym, is_this}
use Rattle.nbd_state.proofs.selection.Selection.are_told.Goals as goal

pub returns-in-None : goal.returns-in-None
returns-in-None c = λ selection settled telling shows. rw c.in-None.is (λ none tells.
    c.are_told_by-in-None.ensures selection settled shows (λ i h. tells i h ∙ ap (λ b. is_this c.args.id i || b) (none i ∙ sym (c.none.ensures i))))
