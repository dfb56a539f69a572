use Rattle.nbd_state.proofs.{Common.{◌∙◌, subst, TellsThese}, SelectionLemmas.{all_told, none_left}}
use Rattle.nbd_state.proofs.selection.Selection.are_told_by.Goals as goal

pub returns-then-told : goal.returns-then-told
returns-then-told c = λ selection settled shows told. c.are_all.ensures
    ∙ none_left c.args.id selection.contexts settled c.args.self.now.ids c.args.told.now.ids shows.ids_are (subst (λ f. TellsThese settled selection.contexts (record { filtered = f; ids = c.args.told.now.ids }) c.args.id) c.if-told.true told)

pub returns-else-told : goal.returns-else-told
returns-else-told c = λ selection settled shows told. c.are_all-else-told.ensures
    ∙ all_told c.args.id selection.contexts settled c.args.self.now.ids c.args.told.now.ids shows.ids_are (subst (λ f. TellsThese settled selection.contexts (record { filtered = f; ids = c.args.told.now.ids }) c.args.id) c.if-told.false told)
