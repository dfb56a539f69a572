use Rattle.nbd_capture.proofs.Common.{◌≡◌, ◌<◌, ◌^◌, take, AllDigits, digits_value}
use Rattle.nbd_capture.proofs.order.number_on.Given as goal

-- the number of the digits so far
abbrev pub invariant-loop-i : goal.invariant-loop-i
invariant-loop-i l = (l.number ≡ digits_value 10 (take l.i l.digits)) × AllDigits 10 (take l.i l.digits) × (l.number < 2 ^ 64)
