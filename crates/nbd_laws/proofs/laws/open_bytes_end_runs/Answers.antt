use Rattle.nbd_laws.proofs.runs.OpenByteLemmas.{open_bytes_end_runs}
use Rattle.nbd_laws.proofs.laws.open_bytes_end_runs.Goals as goal

pub returns : goal.returns
returns c = open_bytes_end_runs
