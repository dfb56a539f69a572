use Rattle.nbd_lines.proofs.PrintedContentsLemmas.{same_print}
use Rattle.nbd_lines.proofs.laws.same_contents_print_alike.Goals as goal

pub returns : goal.returns
returns c = same_print
