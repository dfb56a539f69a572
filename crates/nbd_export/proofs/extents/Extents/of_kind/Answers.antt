use Rattle.nbd_export.proofs.{Common.{Some, ◌∙◌, ap, byte_by_kind}, ExtentLemmas.byte_of-kind}
use Rattle.nbd_export.proofs.extents.Extents.of_kind.Goals as goal

pub returns-clause-bytes : goal.returns-clause-bytes
returns-clause-bytes c = λ x l. byte_of-kind _ x c.args.kind (c.in_ok-kinds.ensures.kinds x l) ∙ ap (byte_by_kind (Some c.args.kind)) (c.new-pages.ensures x)
