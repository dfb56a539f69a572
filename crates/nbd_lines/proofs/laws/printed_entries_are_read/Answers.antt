use Rattle.nbd_lines.proofs.WrittenLemmas.{printed_entries}
use Rattle.nbd_lines.proofs.laws.printed_entries_are_read.Goals as goal

pub returns : goal.returns
returns c = printed_entries
