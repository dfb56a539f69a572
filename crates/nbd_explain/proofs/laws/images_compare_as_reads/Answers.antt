use Rattle.nbd_explain.proofs.ImageLemmas.{images_compare_as_reads}
use Rattle.nbd_explain.proofs.laws.images_compare_as_reads.Goals as goal

pub returns : goal.returns
returns c = images_compare_as_reads
