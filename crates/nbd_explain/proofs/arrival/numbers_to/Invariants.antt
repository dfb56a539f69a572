use Rattle.nbd_explain.proofs.Common.{◌≡◌, number_lines}
use Rattle.nbd_explain.proofs.arrival.numbers_to.Given as goal

abbrev pub invariant-loop-number : goal.invariant-loop-number
invariant-loop-number l = l.text.bytes.items ≡ number_lines l.number
