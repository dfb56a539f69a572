use Rattle.nbd_explain.proofs.ComparingLemmas.{of_measure}
use Rattle.nbd_explain.proofs.comparing.comparison.Goals as goal

pub returns-in-Some-clause-compared : goal.returns-in-Some-clause-compared
returns-in-Some-clause-compared g c = of_measure c.args.contents.now (g.A.Read.remaining c.args.image.now) c.in-Some.count c.size-size.result c.size-size.ensures c.if-count-size.true c.in-Some.ensures
