use Rattle.nbd_explain.proofs.Common.{subst, IsBeginningOf}
use Rattle.nbd_explain.proofs.ordering.told_over.Goals as goal

pub returns-clause-told : goal.returns-clause-told
returns-clause-told g c = (
  c.in_ok-start.start,
  λ initial is. subst (λ n. IsBeginningOf initial n c.in_ok-start.start) c.room_of.ensures (c.in_ok-start.ensures.read initial is),
  c.in_ok-told_of.ensures,
)
