use Rattle.nbd_state.proofs.Common.{OnOk, subst, sym}
use Rattle.nbd_wire.specs.protocol.{Contexts.Selection, Options.selection_told}
use Rattle.nbd_state.specs.Shows.{HasSelection}
use Rattle.nbd_state.proofs.selection.Selection.told.Goals as goal

pub returns-in-4 : goal.returns-in-4
returns-in-4 c = subst (λ kind. OnOk c.add.result ((selection : Selection) → HasSelection c.args.self.now selection → HasSelection c.add.new.self (selection_told kind c.args.answer.now selection))) (sym c.in-4.is) c.add.ensures
