use Rattle.nbd_order.proofs.RefutationLemmas.{refuted_is_unexplained}
use Rattle.nbd_order.proofs.laws.refuted_is_unexplained.Goals as goal

pub returns : goal.returns
returns c = refuted_is_unexplained c.explained_exactly.ensures.only
