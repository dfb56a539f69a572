use Rattle.nbd_order.proofs.finding.searched.Goals as goal

pub returns-in-Contest-clause-wanted : goal.returns-in-Contest-clause-wanted
returns-in-Contest-clause-wanted c = c.tested.ensures.wanted c.args.scope.wanted
