use Rattle.nbd_laws.proofs.runs.AgreeLemmas.{base_is_wide}
use Rattle.nbd_laws.proofs.laws.base_is_wide.Goals as goal

pub returns : goal.returns
returns c = base_is_wide
