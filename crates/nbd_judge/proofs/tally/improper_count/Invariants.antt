use Rattle.nbd_judge.proofs.Common.{◌≡◌, ◌≤◌, length, take, count_by, is_amiss}
use Rattle.nbd_judge.proofs.tally.improper_count.Given as goal

abbrev pub invariant-loop-i : goal.invariant-loop-i
invariant-loop-i l = record { count : l.improper ≡ count_by (is_amiss l.profile) (take l.i l.transcript.asked); within : l.i ≤ length l.transcript.asked; least : l.improper ≤ l.i }
