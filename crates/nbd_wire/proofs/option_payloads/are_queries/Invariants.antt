use Rattle.nbd_wire.proofs.Common.{◌≡◌, are_queries}
use Rattle.nbd_wire.proofs.option_payloads.are_queries.Given as goal

-- what is left answers for the whole
abbrev pub invariant-loop-left : goal.invariant-loop-left
invariant-loop-left l = are_queries l.left l.rest ≡ are_queries l.fn.count l.fn.bytes

abbrev pub decreases-loop-left : goal.decreases-loop-left
decreases-loop-left l = l.left
