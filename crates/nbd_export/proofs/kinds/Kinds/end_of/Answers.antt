use Rattle.nbd_export.proofs.{Common.{arith, kind_from}, KindLemmas.kind_at-along}
use Rattle.nbd_export.proofs.kinds.Kinds.end_of.Goals as goal

pub returns-clause-one : goal.returns-clause-one
returns-clause-one c = λ x lo hi. kind_at-along (kind_from c.args.self.now.starts) c.args.offset x (λ k l m. c.end_of.ensures.one k l (omega arith)) lo
