-- Explicit runs of structured replies: each is checked by computing.
use Rattle.nbd_laws.proofs.{Common.{[], ◌∷◌, ◌++◌, refl, whole, Serves}, worked.{SessionLemmas.{broken, content, done, gone, greeted, hole, read, sends, structured, write}, AnswerLemmas.{computing, no, yes}}}
use Rattle.nbd_laws.proofs.examples.chunks.Goals as goal

pub returns-clause-structured_read : goal.returns-clause-structured_read
unfolding computing
returns-clause-structured_read c = yes (sends (greeted ++ structured ++ gone ++ write 1 4 (10 ∷ 11 ∷ 12 ∷ 13 ∷ []) ∷ []) ++ Serves (whole 1) ∷ sends (done 1 ∷ read 2 0 8 ∷ []) ++ Serves (whole 2) ∷ sends (content 2 4 (10 ∷ 11 ∷ 12 ∷ 13 ∷ []) ∷ hole 2 0 4 ∷ done 2 ∷ [])) refl refl refl refl refl refl tt refl refl refl refl

pub returns-clause-later_piece : goal.returns-clause-later_piece
unfolding computing
returns-clause-later_piece c = no (sends (greeted ++ structured ++ gone ++ write 1 4 (10 ∷ 11 ∷ 12 ∷ 13 ∷ []) ∷ []) ++ Serves (whole 1) ∷ sends (done 1 ∷ read 2 0 8 ∷ []) ++ Serves (whole 2) ∷ sends (content 2 4 (10 ∷ 11 ∷ 12 ∷ 13 ∷ []) ∷ content 2 0 (0 ∷ 0 ∷ 0 ∷ 1 ∷ []) ∷ done 2 ∷ [])) refl refl refl refl refl 1 3 refl

pub returns-clause-empty_read : goal.returns-clause-empty_read
unfolding computing
returns-clause-empty_read c = yes (sends (greeted ++ structured ++ gone ++ read 1 0 0 ∷ []) ++ Serves (whole 1) ∷ sends (done 1 ∷ [])) refl refl refl refl refl refl tt refl refl refl refl

pub returns-clause-failed_read : goal.returns-clause-failed_read
unfolding computing
returns-clause-failed_read c = yes (sends (greeted ++ structured ++ gone ++ read 1 0 2 ∷ []) ++ Serves (whole 1) ∷ sends (broken 1 5 1 ∷ [])) refl refl refl refl refl refl tt refl refl refl refl

pub returns-clause-failed_content : goal.returns-clause-failed_content
unfolding computing
returns-clause-failed_content c = yes (sends (greeted ++ structured ++ gone ++ read 1 0 2 ∷ []) ++ Serves (whole 1) ∷ sends (content 1 0 (255 ∷ []) ∷ broken 1 5 1 ∷ [])) refl refl refl refl refl refl tt refl refl refl refl
