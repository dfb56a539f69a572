-- Explicit runs of requests that are served in parts: each is checked by computing.
use Rattle.nbd_laws.proofs.{Common.{◌≡◌, List, [], ◌∷◌, ◌++◌, refl, inl, inr, lit<, lit≤, true, false, part, whole, Zeroes, Item, Serves, flat, Base, IsRunOf}, worked.{DecidingRunLemmas.is_run, SessionLemmas.{fails, gives, gone, greeted, read, sends, succeeds, write}, AnswerLemmas.{computing, no_by, yes, yes_by}}, service.ExplainingLemmas.failing_is_no}
use Rattle.nbd_laws.specs.captures.Reads as captures
use Rattle.nbd_laws.proofs.examples.parts.Goals as goal

half_written_items : List Item
half_written_items = sends (greeted ++ gone ++ write 1 0 (171 ∷ 205 ∷ []) ∷ read 2 0 2 ∷ []) ++ Serves (part 1 0 1) ∷ Serves (whole 2) ∷ Serves (part 1 1 1) ∷ sends (gives 2 (171 ∷ 0 ∷ []) ∷ succeeds 1 ∷ [])

half_written_run : IsRunOf Base half_written_items
unfolding half_written_items computing
half_written_run = is_run half_written_items refl refl refl refl

pub returns-clause-half_written : goal.returns-clause-half_written
unfolding half_written_items computing
returns-clause-half_written c = yes_by half_written_items half_written_run refl refl tt refl refl refl refl

pub returns-clause-half_written_atomically : goal.returns-clause-half_written_atomically
unfolding half_written_items computing
returns-clause-half_written_atomically c = no_by half_written_items half_written_run refl 1 1 refl

pub returns-clause-half_written_uncovered : goal.returns-clause-half_written_uncovered
unfolding half_written_items computing
returns-clause-half_written_uncovered c = failing_is_no half_written_items (flat captures.half_written) (part 1 0 1 ∷ whole 2 ∷ []) Zeroes half_written_run refl (λ p. (let q : false ≡ true = (p.faultless.served 1 1 (lit< tt, lit≤ tt, (2, refl))).covered refl in absurd (cc)))

pub returns-clause-half_written_shared : goal.returns-clause-half_written_shared
unfolding half_written_items computing
returns-clause-half_written_shared c = failing_is_no half_written_items (flat captures.half_written) (part 1 0 1 ∷ part 1 0 2 ∷ whole 2 ∷ []) Zeroes half_written_run refl (λ p. p.faultless.none_bad 1 (inr (inr (part 1 0 2, refl, inr (inr (0, refl, refl))))))

pub returns-clause-half_written_repeated : goal.returns-clause-half_written_repeated
unfolding half_written_items computing
returns-clause-half_written_repeated c = failing_is_no half_written_items (flat captures.half_written) (part 1 0 1 ∷ whole 1 ∷ whole 2 ∷ []) Zeroes half_written_run refl (λ p. p.faultless.none_bad 1 (inr (inl (whole 1, refl, inl refl))))

pub returns-clause-half_read : goal.returns-clause-half_read
unfolding computing
returns-clause-half_read c = yes (sends (greeted ++ gone ++ write 1 0 (171 ∷ 205 ∷ []) ∷ read 2 0 2 ∷ []) ++ Serves (part 2 0 1) ∷ Serves (whole 1) ∷ Serves (part 2 1 1) ∷ sends (gives 2 (0 ∷ 205 ∷ []) ∷ succeeds 1 ∷ [])) refl refl refl refl refl refl tt refl refl refl refl

improper_write_items : List Item
improper_write_items = sends (greeted ++ gone ++ write 1 6 (170 ∷ 187 ∷ 204 ∷ 221 ∷ []) ∷ []) ++ Serves (part 1 6 2) ∷ sends (fails 1 22 ∷ [])

improper_write_run : IsRunOf Base improper_write_items
unfolding improper_write_items computing
improper_write_run = is_run improper_write_items refl refl refl refl

pub returns-clause-improper_write : goal.returns-clause-improper_write
unfolding improper_write_items computing
returns-clause-improper_write c = yes_by improper_write_items improper_write_run refl refl tt refl refl refl refl

pub returns-clause-improper_write_outside : goal.returns-clause-improper_write_outside
unfolding improper_write_items computing
returns-clause-improper_write_outside c = failing_is_no improper_write_items (flat captures.improper_write) (part 1 6 4 ∷ []) Zeroes improper_write_run refl (λ p. p.faultless.none_bad 0 (inr (inr (part 1 6 4, refl, inr (inl (8, refl, refl))))))
