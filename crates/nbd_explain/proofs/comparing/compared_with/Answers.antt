use Rattle.nbd_explain.proofs.ComparingLemmas.{of_agreement, of_difference, of_sizes}
use Rattle.nbd_explain.proofs.comparing.compared_with.Goals as goal

pub returns-then-count-size : goal.returns-then-count-size
returns-then-count-size c = λ bytes counted least. of_sizes c.args.contents.now bytes c.args.count c.size-size.result c.args.first c.size-size.ensures counted least c.if-count-size.true

pub returns-in-Some : goal.returns-in-Some
returns-in-Some c = λ bytes counted least. of_difference c.args.contents.now bytes c.args.count c.size-size.result c.args.first c.size-size.ensures counted least c.in-Some.offset c.if-count-size.false c.in-Some.is

pub returns-in-None : goal.returns-in-None
returns-in-None c = λ bytes counted least. of_agreement c.args.contents.now bytes c.args.count c.size-size.result c.args.first c.size-size.ensures counted least c.known_count-known.result c.if-count-size.false c.in-None.is c.known_count-known.ensures.counted
