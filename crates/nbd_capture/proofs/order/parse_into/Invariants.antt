use Rattle.nbd_capture.proofs.{Common.{length, vec_capacity, ◌≤◌, IsOrderLine}, ProgressLemmas.Progress}
use Rattle.nbd_capture.proofs.order.parse_into.Given as goal

abbrev pub invariant-loop-line : goal.invariant-loop-line
invariant-loop-line l = Progress IsOrderLine l.text l.rest l.entries.items l.line_number
    × (vec_capacity l.initial.entries ≤ vec_capacity l.entries)

abbrev pub decreases-loop-line : goal.decreases-loop-line
decreases-loop-line l = length l.rest
