use Rattle.nbd_export.proofs.{Common.{Some, ◌∙◌, ap}, ExtentLemmas.seen_same}
use Rattle.nbd_export.proofs.extents.Extents.nonzero_unseen.Goals as goal

pub returns-in-Zeroes : goal.returns-in-Zeroes
returns-in-Zeroes c =
    seen_same c.args.self.now c.args.offset c.args.len c.requires.fits
    (λ x lo hi. c.requires.one x lo hi ∙ c.kind_at.ensures ∙ ap Some c.in-Zeroes.is)
