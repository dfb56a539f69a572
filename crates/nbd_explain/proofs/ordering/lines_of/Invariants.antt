use Rattle.nbd_explain.proofs.Common.{◌≡◌, take, entry_lines}
use Rattle.nbd_explain.proofs.ordering.lines_of.Given as goal

abbrev pub invariant-loop-entry : goal.invariant-loop-entry
invariant-loop-entry l = record { lines : l.text.bytes.items ≡ entry_lines (take l.entry-index l.entries) }
