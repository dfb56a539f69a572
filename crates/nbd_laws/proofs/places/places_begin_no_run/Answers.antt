use Rattle.nbd_laws.proofs.runs.PlaceLemmas.{places_begin_no_run}
use Rattle.nbd_laws.proofs.places.places_begin_no_run.Goals as goal

pub returns : goal.returns
returns c = places_begin_no_run
