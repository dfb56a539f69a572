-- Explicit runs of proper and improper requests: each is checked by computing.
use Rattle.nbd_laws.proofs.{Common.{[], ◌∷◌, ◌++◌, refl, whole, Serves}, worked.{SessionLemmas.{fails, flagged, gives, gone, gone_with, greeted, read, sends, succeeds, trim, write, zero_out}, AnswerLemmas.{computing, yes}}}
use Rattle.nbd_wire.specs.declared.commands.TheConstants as commands
use Rattle.nbd_laws.proofs.examples.requests.Goals as goal

pub returns-clause-proper_requests : goal.returns-clause-proper_requests
unfolding computing
returns-clause-proper_requests c = yes (sends (greeted ++ gone_with 2285 ++ flagged 1 commands.FLUSH 1 0 0 [] ∷ []) ++ Serves (whole 1) ∷ sends (succeeds 1 ∷ flagged 1 commands.WRITE 2 0 1 (171 ∷ []) ∷ []) ++ Serves (whole 2) ∷ sends (succeeds 2 ∷ flagged 19 commands.WRITE_ZEROES 3 1 1 [] ∷ []) ++ Serves (whole 3) ∷ sends (succeeds 3 ∷ flagged 5 commands.READ 4 0 1 [] ∷ []) ++ Serves (whole 4) ∷ sends (gives 4 (171 ∷ []) ∷ flagged 1 commands.CACHE 5 0 8 [] ∷ []) ++ Serves (whole 5) ∷ sends (succeeds 5 ∷ flagged 1 commands.TRIM 6 7 1 [] ∷ []) ++ Serves (whole 6) ∷ sends (succeeds 6 ∷ [])) refl refl refl refl refl refl tt refl refl refl refl

pub returns-clause-changes_of_read_only : goal.returns-clause-changes_of_read_only
unfolding computing
returns-clause-changes_of_read_only c = yes (sends (greeted ++ gone_with 111 ++ write 1 0 (171 ∷ []) ∷ []) ++ Serves (whole 1) ∷ sends (fails 1 1 ∷ trim 2 0 1 ∷ []) ++ Serves (whole 2) ∷ sends (fails 2 1 ∷ zero_out 3 0 1 ∷ []) ++ Serves (whole 3) ∷ sends (fails 3 1 ∷ [])) refl refl refl refl refl refl tt refl refl refl refl

pub returns-clause-requests_not_offered : goal.returns-clause-requests_not_offered
unfolding computing
returns-clause-requests_not_offered c = yes (sends (greeted ++ gone_with 1 ++ flagged 0 commands.FLUSH 1 0 0 [] ∷ []) ++ Serves (whole 1) ∷ sends (fails 1 22 ∷ trim 2 0 1 ∷ []) ++ Serves (whole 2) ∷ sends (fails 2 22 ∷ zero_out 3 0 1 ∷ []) ++ Serves (whole 3) ∷ sends (fails 3 22 ∷ flagged 1 commands.WRITE 4 0 1 (171 ∷ []) ∷ []) ++ Serves (whole 4) ∷ sends (fails 4 22 ∷ [])) refl refl refl refl refl refl tt refl refl refl refl

pub returns-clause-flags_not_allowed : goal.returns-clause-flags_not_allowed
unfolding computing
returns-clause-flags_not_allowed c = yes (sends (greeted ++ gone ++ flagged 4 commands.READ 1 0 1 [] ∷ []) ++ Serves (whole 1) ∷ sends (fails 1 22 ∷ flagged 16 commands.WRITE_ZEROES 2 0 1 [] ∷ []) ++ Serves (whole 2) ∷ sends (fails 2 22 ∷ flagged 2 commands.READ 3 0 1 [] ∷ []) ++ Serves (whole 3) ∷ sends (fails 3 22 ∷ flagged 8 commands.READ 4 0 1 [] ∷ []) ++ Serves (whole 4) ∷ sends (fails 4 22 ∷ [])) refl refl refl refl refl refl tt refl refl refl refl

pub returns-clause-odd_requests : goal.returns-clause-odd_requests
unfolding computing
returns-clause-odd_requests c = yes (sends (greeted ++ gone ++ flagged 0 7 1 0 0 [] ∷ []) ++ Serves (whole 1) ∷ sends (fails 1 22 ∷ flagged 0 commands.FLUSH 2 1 0 [] ∷ []) ++ Serves (whole 2) ∷ sends (fails 2 22 ∷ flagged 0 commands.FLUSH 3 0 1 [] ∷ []) ++ Serves (whole 3) ∷ sends (fails 3 22 ∷ write 4 7 (171 ∷ 205 ∷ []) ∷ []) ++ Serves (whole 4) ∷ sends (fails 4 28 ∷ [])) refl refl refl refl refl refl tt refl refl refl refl

pub returns-clause-improper_read : goal.returns-clause-improper_read
unfolding computing
returns-clause-improper_read c = yes (sends (greeted ++ gone ++ read 1 8 1 ∷ []) ++ Serves (whole 1) ∷ sends (fails 1 22 ∷ [])) refl refl refl refl refl refl tt refl refl refl refl

pub returns-clause-read_of_nothing : goal.returns-clause-read_of_nothing
unfolding computing
returns-clause-read_of_nothing c = yes (sends (greeted ++ gone ++ read 1 8 0 ∷ []) ++ Serves (whole 1) ∷ sends (succeeds 1 ∷ [])) refl refl refl refl refl refl tt refl refl refl refl
