use Rattle.nbd_explain.proofs.contents.left_of.Goals as goal

pub returns-in-Ok-clause-left : goal.returns-in-Ok-clause-left
returns-in-Ok-clause-left c = rw c.in-Ok.is c.in_ok-left_from-in-Ok.ensures
