use Rattle.nbd_lines.proofs.{Common.made_line, WrittenLineLemmas.Written}
use Rattle.nbd_lines.proofs.output.write_chunks.Given as goal

abbrev pub invariant-loop-message : goal.invariant-loop-message
invariant-loop-message g l = Written made_line (g.W.Write.contents l.initial.out) (g.W.Write.contents l.out) l.messages l.message-index
