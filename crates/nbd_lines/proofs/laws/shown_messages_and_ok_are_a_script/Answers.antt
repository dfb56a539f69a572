use Rattle.nbd_lines.proofs.{Common.codes, PrintableLemmas.{ok_alone, shown_then}}
use Rattle.nbd_lines.proofs.laws.shown_messages_and_ok_are_a_script.Goals as goal

pub returns : goal.returns
returns c = λ messages s. shown_then messages (codes "ok\n") s ok_alone
