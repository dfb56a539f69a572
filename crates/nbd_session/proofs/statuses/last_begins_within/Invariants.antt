use Rattle.nbd_session.proofs.{Common.{◌≡◌, ◌∷◌, length, extent_of, extents_of}, judge.ExtentLemmas.Within}
use Rattle.nbd_session.proofs.statuses.last_begins_within.Given as goal

-- what is left answers for the whole
abbrev pub invariant-loop-next : goal.invariant-loop-next
invariant-loop-next l =
    Within l.fn.size (extents_of l.fn.extended l.fn.descriptors) ≡ Within l.left (extent_of l.extent ∷ extents_of l.fn.extended l.rest)

abbrev pub decreases-loop-next : goal.decreases-loop-next
decreases-loop-next l = length (extents_of l.fn.extended l.rest)
