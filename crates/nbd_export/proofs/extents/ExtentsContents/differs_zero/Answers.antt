use Rattle.nbd_export.proofs.{Common.{refl, ◌∙◌}, ExtentLemmas.{byte_of-noted, zeroes_noted}}
use Rattle.nbd_export.proofs.extents.ExtentsContents.differs_zero.Goals as goal

pub invariant_of-self-clause-sizes : goal.invariant_of-self-clause-sizes
invariant_of-self-clause-sizes c = c.set.ensures.size ∙ c.args.self.now.sizes

pub invariant_of-self-clause-zeroes : goal.invariant_of-self-clause-zeroes
invariant_of-self-clause-zeroes c =
    zeroes_noted c.set.result c.args.self.now c.set.new.self c.args.offset c.args.len c.set.ensures.before c.set.ensures.behind c.set.ensures.refused c.in_default.ensures

pub returns-then-len-gt0-clause-bytes : goal.returns-then-len-gt0-clause-bytes
returns-then-len-gt0-clause-bytes c = byte_of-noted c.args.self.now _ refl refl
