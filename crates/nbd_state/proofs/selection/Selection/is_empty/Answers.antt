use Rattle.nbd_state.proofs.SelectionLemmas.{none_of}
use Rattle.nbd_state.proofs.selection.Selection.is_empty.Goals as goal

pub returns : goal.returns
returns c = λ selection shows. none_of c.args.self.now.ids selection.contexts c.is_empty.result shows.ids_are c.is_empty.ensures.0 c.is_empty.ensures.1
