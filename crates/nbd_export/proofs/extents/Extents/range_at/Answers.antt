use Rattle.nbd_export.proofs.{Common.{◌∙◌}, ExtentLemmas.{is_of_kind, other_kind}}
use Rattle.nbd_export.proofs.extents.Extents.range_at.Goals as goal

pub returns-clause-kind : goal.returns-clause-kind
returns-clause-kind c = λ x lo hi. c.end_of.ensures.one x lo hi ∙ c.kind_at.ensures

pub returns-clause-bytes : goal.returns-clause-bytes
returns-clause-bytes c = λ x lo hi. is_of_kind c.args.self.now x c.kind_at.result (c.end_of.ensures.one x lo hi ∙ c.kind_at.ensures)

pub returns-clause-whole : goal.returns-clause-whole
returns-clause-whole c = λ lt. other_kind c.args.self.now.kinds c.args.offset c.end_of.result c.kind_at.result c.end_of.ensures.behind (c.end_of.ensures.next lt)
    (λ x lo hi. c.end_of.ensures.one x lo hi ∙ c.kind_at.ensures)
