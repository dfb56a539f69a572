use Rattle.nbd_laws.proofs.runs.PlaceLemmas.{prefixes_have_no_place}
use Rattle.nbd_laws.proofs.places.one_place.Goals as goal

pub returns-clause-first : goal.returns-clause-first
returns-clause-first c = prefixes_have_no_place
