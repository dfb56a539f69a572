use Rattle.nbd_laws.proofs.service.ExplainingLemmas.{explained_passes, passing_is_explained}
use Rattle.nbd_laws.proofs.laws.explained_exactly.Goals as goal

pub returns-clause-passing : goal.returns-clause-passing
returns-clause-passing c = passing_is_explained

pub returns-clause-only : goal.returns-clause-only
returns-clause-only c = explained_passes
