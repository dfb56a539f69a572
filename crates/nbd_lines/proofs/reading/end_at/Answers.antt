use Rattle.nbd_lines.proofs.{Common.arith, EndLemmas.{empty, nothing_at, payload_at, bad_digits_are_no_end}}
use Rattle.nbd_lines.proofs.reading.end_at.Goals as goal

pub returns-then-not-has_payload : goal.returns-then-not-has_payload
returns-then-not-has_payload c = grind (arith, nothing_at, empty)

pub returns-in_ok-take-in-Ok : goal.returns-in_ok-take-in-Ok
returns-in_ok-take-in-Ok c = grind (arith, payload_at)

pub returns-in_default-e : goal.returns-in_default-e
returns-in_default-e c = grind (arith, bad_digits_are_no_end)
