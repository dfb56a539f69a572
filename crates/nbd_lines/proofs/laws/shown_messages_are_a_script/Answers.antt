use Rattle.nbd_lines.proofs.PrintableLemmas.{message_lines_are_script}
use Rattle.nbd_lines.proofs.laws.shown_messages_are_a_script.Goals as goal

pub returns : goal.returns
returns c = message_lines_are_script
