use Rattle.nbd_wire.proofs.Common.{◌≡◌, ◌*◌, length, has_number}
use Rattle.nbd_wire.proofs.sizes.has_number.Given as goal

-- what is left answers for the whole
abbrev pub invariant-loop-left : goal.invariant-loop-left
invariant-loop-left l = record { same : has_number l.fn.wanted l.left l.rest ≡ has_number l.fn.wanted l.fn.count l.fn.bytes; long : length l.rest ≡ 2 * l.left }

abbrev pub decreases-loop-left : goal.decreases-loop-left
decreases-loop-left l = l.left
