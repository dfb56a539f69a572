use Rattle.nbd_session.proofs.{Common.arith, parsing.ShownOperationLemmas.{none_beyond, place_within}}
use Rattle.nbd_session.proofs.replies.place_of.Goals as goal

pub returns-then-place-counted : goal.returns-then-place-counted
returns-then-place-counted c = grind (arith, place_within)

pub returns-else-place-counted : goal.returns-else-place-counted
returns-else-place-counted c = grind (arith, none_beyond)
