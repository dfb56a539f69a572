use Rattle.nbd_judge.proofs.Common.{◌≡◌, ◌≤◌, length, take, count_by, Asked, is_answered}
use Rattle.nbd_judge.proofs.tally.answered_count.Given as goal

abbrev pub invariant-loop-i : goal.invariant-loop-i
invariant-loop-i l = record { count : l.answered ≡ count_by (λ (a : Asked). is_answered a.outcome) (take l.i l.transcript.asked); within : l.i ≤ length l.transcript.asked; least : l.answered ≤ l.i }
