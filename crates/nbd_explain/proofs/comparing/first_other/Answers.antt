use Rattle.nbd_explain.proofs.ComparingLemmas.{least_kept, least_next}
use Rattle.nbd_explain.proofs.comparing.first_other.Goals as goal

pub returns-in-Some : goal.returns-in-Some
returns-in-Some c = λ before at fits l. least_kept c.args.contents.now before c.args.bytes.now c.args.first c.in-Some.field-0 c.in-Some.is l

pub returns-in-None : goal.returns-in-None
returns-in-None c = λ before at fits l. least_next c.args.contents.now before c.args.bytes.now c.args.offset c.args.first c.differs.result c.in-None.is at l c.differs.ensures
