use Rattle.nbd_wire.proofs.Common.{◌≡◌, length, extents_of, has_empty}
use Rattle.nbd_wire.proofs.chunk_payloads.is_one_empty.Given as goal

-- what is left answers for the whole
abbrev pub invariant-loop-extent : goal.invariant-loop-extent
invariant-loop-extent l = has_empty (extents_of l.fn.extended l.rest) ≡ has_empty (extents_of l.fn.extended l.fn.descriptors)

abbrev pub decreases-loop-extent : goal.decreases-loop-extent
decreases-loop-extent l = length (extents_of l.fn.extended l.rest)
