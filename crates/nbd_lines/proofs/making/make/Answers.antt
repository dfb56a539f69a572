use Rattle.nbd_lines.proofs.{Common.{tests, rules}, MakeLemmas.all_fit}
use Rattle.nbd_lines.proofs.making.make.Goals as goal

pub write_chunks-requires : goal.write_chunks-requires
write_chunks-requires g c = rw c.as_slice.ensures.value (all_fit c.args.script.now c.in_ok-messages.messages.items c.in_ok-messages.ensures.messages)

pub returns-in_err-messages-clause-left : goal.returns-in_err-messages-clause-left
returns-in_err-messages-clause-left g c = search (tests, rules)

pub returns-in_err-write_chunks-clause-left : goal.returns-in_err-write_chunks-clause-left
returns-in_err-write_chunks-clause-left g c = search (tests, rules)

pub returns-clause-written : goal.returns-clause-written
returns-clause-written g c = search (tests, rules)
