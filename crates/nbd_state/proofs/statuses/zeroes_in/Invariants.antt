use Rattle.nbd_state.proofs.Common.{◌≡◌, ◌+◌, ◌-◌, ◌<◌, ◌≤◌, ◌^◌, ◌++◌, length, extents_of, zeroes_in}
use Rattle.nbd_state.proofs.statuses.zeroes_in.Given as goal

-- what was found, and what is found of the rest
abbrev pub invariant-loop-extent : goal.invariant-loop-extent
invariant-loop-extent l =
    (l.left ≤ l.fn.length) × (l.fn.offset + l.fn.length < 2 ^ 64 →
    l.pieces.items ++ zeroes_in (l.fn.offset + (l.fn.length - l.left)) l.left (extents_of l.fn.extended l.rest) ≡ zeroes_in l.fn.offset l.fn.length (extents_of l.fn.extended l.fn.descriptors))

abbrev pub decreases-loop-extent : goal.decreases-loop-extent
decreases-loop-extent l = length (extents_of l.fn.extended l.rest)
