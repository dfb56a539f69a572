use Rattle.nbd_session.proofs.{Common.arith, pushed.NoteLemmas.{is_last_of, last_within, noted_after, noted_grown}}
use Rattle.nbd_session.proofs.stretches.note.Goals as goal

pub returns-then-not-is_last : goal.returns-then-not-is_last
returns-then-not-is_last c = grind (arith, noted_after)

pub overflow_add-last : goal.overflow_add-last
overflow_add-last c = grind (arith, is_last_of, last_within)

pub returns-in-Some : goal.returns-in-Some
returns-in-Some c = grind (arith, is_last_of, noted_grown)
