use Rattle.nbd_lines.proofs.NumberLemmas.{Past}
use Rattle.nbd_lines.proofs.fields.numbers_at.Given as goal

abbrev pub invariant-loop-k : goal.invariant-loop-k
invariant-loop-k l = Past l.fields l.text l.k l.numbers l.rest
