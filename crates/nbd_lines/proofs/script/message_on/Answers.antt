use Rattle.nbd_lines.proofs.Common.{FitsItsHead, IsMessageLine, message}
use Rattle.nbd_lines.proofs.script.message_on.Goals as goal

pub returns-clause-said : goal.returns-clause-said
returns-clause-said c =
    let read : IsMessageLine c.args.line.now c.in_ok-message.message × FitsItsHead c.in_ok-message.message = rw c.in_ok-message.ensures.ok_part at c.in_ok-parse_message.ensures in
    message c.args.line.now c.in_ok-message.message read.0 read.1
