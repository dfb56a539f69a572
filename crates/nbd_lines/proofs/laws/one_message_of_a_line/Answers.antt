use Rattle.nbd_lines.proofs.MessageLineLemmas.{one_message}
use Rattle.nbd_lines.proofs.laws.one_message_of_a_line.Goals as goal

pub returns : goal.returns
returns c = one_message
