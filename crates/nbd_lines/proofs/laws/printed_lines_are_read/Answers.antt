use Rattle.nbd_lines.proofs.PrintableLemmas.{message_line_is_sendable}
use Rattle.nbd_lines.proofs.laws.printed_lines_are_read.Goals as goal

pub returns : goal.returns
returns c = message_line_is_sendable
