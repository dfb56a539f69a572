use Rattle.nbd_explain.proofs.Common.{◌≡◌, take, spaced_numbers}
use Rattle.nbd_explain.proofs.ordering.numbers_of.Given as goal

abbrev pub invariant-loop-number : goal.invariant-loop-number
invariant-loop-number l = record { spaced : l.text.bytes.items ≡ spaced_numbers (take l.number-index l.numbers) }
