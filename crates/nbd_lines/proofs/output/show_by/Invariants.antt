use Rattle.nbd_lines.proofs.{Common.shown_line, WrittenLineLemmas.Written}
use Rattle.nbd_lines.proofs.output.show_by.Given as goal

abbrev pub invariant-loop-message : goal.invariant-loop-message
invariant-loop-message g l = Written shown_line (g.W.Write.contents l.initial.out) (g.W.Write.contents l.out) l.messages l.message-index
