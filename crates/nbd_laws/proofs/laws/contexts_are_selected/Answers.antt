use Rattle.nbd_laws.proofs.runs.SelectedLemmas.{contexts_are_selected}
use Rattle.nbd_laws.proofs.laws.contexts_are_selected.Goals as goal

pub returns : goal.returns
returns c = contexts_are_selected
