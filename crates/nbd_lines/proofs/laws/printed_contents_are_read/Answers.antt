use Rattle.nbd_lines.proofs.PrintedContentsLemmas.{printed_read}
use Rattle.nbd_lines.proofs.laws.printed_contents_are_read.Goals as goal

pub returns : goal.returns
returns c = printed_read
