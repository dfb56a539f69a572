use Rattle.nbd_lines.proofs.PrintedLemmas.{Printing}
use Rattle.nbd_lines.proofs.printing.append_numbers.Given as goal

abbrev pub invariant-loop-k : goal.invariant-loop-k
invariant-loop-k l = Printing l.fields l.numbers l.k l.initial.out.items l.out.items
