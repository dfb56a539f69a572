-- Explicit runs of reads and writes: each is checked by computing.
use Rattle.nbd_laws.proofs.{Common.{List, [], ◌∷◌, ◌++◌, refl, inl, inr, lit<, lit≤, arith, Names, whole, Zeroes, Item, Serves, flat, Base, IsRunOf}, worked.{DecidingRunLemmas.is_run, SessionLemmas.{disconnect, fails, gives, gone, greeted, read, sends, succeeds, trim, within, write, zero_out}, AnswerLemmas.{computing, no, no_by, yes, yes_by}}, service.ExplainingLemmas.failing_is_no}
use Rattle.nbd_laws.specs.captures.Reads as captures
use Rattle.nbd_laws.proofs.examples.reads.Goals as goal

-- the order 1 does not name 2
one_entry : Names (whole 1 ∷ []) 2 → ⊥
one_entry n = elim n [ inl e ↦ absurd (omega arith) | inr h ↦ h ]

pub returns-clause-first_run : goal.returns-clause-first_run
unfolding computing
returns-clause-first_run c = yes (sends (greeted ++ gone ++ read 1 0 4 ∷ []) ++ Serves (whole 1) ∷ sends (gives 1 (0 ∷ 0 ∷ 0 ∷ 0 ∷ []) ∷ [])) refl refl refl refl refl refl tt refl refl refl refl

write_and_read_items : List Item
write_and_read_items = sends (greeted ++ gone ++ write 1 0 (171 ∷ 205 ∷ []) ∷ []) ++ Serves (whole 1) ∷ sends (succeeds 1 ∷ read 2 0 4 ∷ []) ++ Serves (whole 2) ∷ sends (gives 2 (171 ∷ 205 ∷ 0 ∷ 0 ∷ []) ∷ [])

write_and_read_run : IsRunOf Base write_and_read_items
unfolding write_and_read_items computing
write_and_read_run = is_run write_and_read_items refl refl refl refl

pub returns-clause-write_and_read : goal.returns-clause-write_and_read
unfolding write_and_read_items computing
returns-clause-write_and_read c = yes_by write_and_read_items write_and_read_run refl refl tt refl refl refl refl

pub returns-clause-write_and_read_missing : goal.returns-clause-write_and_read_missing
unfolding write_and_read_items computing
returns-clause-write_and_read_missing c = failing_is_no write_and_read_items (flat captures.write_and_read) (whole 1 ∷ []) Zeroes write_and_read_run refl (λ p. one_entry (p.faultless.served 2 0 (lit< tt, lit≤ tt, (2, refl))).named)

pub returns-clause-write_and_misread : goal.returns-clause-write_and_misread
unfolding computing
returns-clause-write_and_misread c = no (sends (greeted ++ gone ++ write 1 0 (171 ∷ 205 ∷ []) ∷ []) ++ Serves (whole 1) ∷ sends (succeeds 1 ∷ read 2 0 4 ∷ []) ++ Serves (whole 2) ∷ sends (gives 2 (171 ∷ 206 ∷ 0 ∷ 0 ∷ []) ∷ [])) refl refl refl refl refl 1 1 refl

pub returns-clause-read_before_reply : goal.returns-clause-read_before_reply
unfolding computing
returns-clause-read_before_reply c = yes (sends (greeted ++ gone ++ write 1 0 (171 ∷ 205 ∷ []) ∷ read 2 0 2 ∷ []) ++ Serves (whole 1) ∷ Serves (whole 2) ∷ sends (gives 2 (171 ∷ 205 ∷ []) ∷ succeeds 1 ∷ [])) refl refl refl refl refl refl tt refl refl refl refl

pub returns-clause-failed_write : goal.returns-clause-failed_write
unfolding computing
returns-clause-failed_write c = yes (sends (greeted ++ gone ++ write 1 0 (171 ∷ 205 ∷ []) ∷ read 2 0 2 ∷ []) ++ Serves (whole 1) ∷ Serves (whole 2) ∷ sends (gives 2 (238 ∷ 255 ∷ []) ∷ fails 1 5 ∷ [])) refl refl refl refl refl refl tt refl refl refl refl

pub returns-clause-ignored_write : goal.returns-clause-ignored_write
unfolding computing
returns-clause-ignored_write c = no (sends (greeted ++ gone ++ write 1 0 (171 ∷ 205 ∷ []) ∷ read 2 0 2 ∷ []) ++ Serves (whole 1) ∷ Serves (whole 2) ∷ sends (gives 2 (238 ∷ 255 ∷ []) ∷ succeeds 1 ∷ [])) refl refl refl refl refl 1 0 refl

pub returns-clause-overwritten : goal.returns-clause-overwritten
unfolding computing
returns-clause-overwritten c = yes (sends (greeted ++ gone ++ write 1 0 (170 ∷ []) ∷ []) ++ Serves (whole 1) ∷ sends (succeeds 1 ∷ write 2 0 (187 ∷ []) ∷ []) ++ Serves (whole 2) ∷ sends (succeeds 2 ∷ read 3 0 1 ∷ []) ++ Serves (whole 3) ∷ sends (gives 3 (187 ∷ []) ∷ [])) refl refl refl refl refl refl tt refl refl refl refl

pub returns-clause-read_first : goal.returns-clause-read_first
unfolding computing
returns-clause-read_first c = yes (sends (greeted ++ gone ++ read 1 0 1 ∷ []) ++ Serves (whole 1) ∷ sends (gives 1 (0 ∷ []) ∷ write 2 0 (171 ∷ []) ∷ []) ++ Serves (whole 2) ∷ sends (succeeds 2 ∷ [])) refl refl refl refl refl refl tt refl refl refl refl

two_reads_items : List Item
two_reads_items = sends (greeted ++ gone ++ read 1 0 1 ∷ []) ++ Serves (whole 1) ∷ sends (gives 1 (0 ∷ []) ∷ read 2 0 1 ∷ []) ++ Serves (whole 2) ∷ sends (gives 2 (0 ∷ []) ∷ [])

two_reads_run : IsRunOf Base two_reads_items
unfolding two_reads_items computing
two_reads_run = is_run two_reads_items refl refl refl refl

pub returns-clause-two_reads : goal.returns-clause-two_reads
unfolding two_reads_items computing
returns-clause-two_reads c = yes_by two_reads_items two_reads_run refl refl tt refl refl refl refl

pub returns-clause-two_reads_late : goal.returns-clause-two_reads_late
unfolding two_reads_items computing
returns-clause-two_reads_late c = failing_is_no two_reads_items (flat captures.two_reads) (whole 2 ∷ whole 1 ∷ []) Zeroes two_reads_run refl (λ p. p.faultless.none_late 0 (whole 2, 1, 0, 1, refl, refl, refl, lit< tt))

odd_byte_items : List Item
odd_byte_items = sends (greeted ++ gone ++ read 1 0 1 ∷ []) ++ Serves (whole 1) ∷ sends (gives 1 (255 ∷ []) ∷ [])

odd_byte_run : IsRunOf Base odd_byte_items
unfolding odd_byte_items computing
odd_byte_run = is_run odd_byte_items refl refl refl refl

pub returns-clause-odd_byte_zeroes : goal.returns-clause-odd_byte_zeroes
unfolding odd_byte_items computing
returns-clause-odd_byte_zeroes c = no_by odd_byte_items odd_byte_run refl 0 0 refl

pub returns-clause-odd_byte_unknown : goal.returns-clause-odd_byte_unknown
unfolding odd_byte_items computing
returns-clause-odd_byte_unknown c = yes_by odd_byte_items odd_byte_run refl refl tt refl refl refl refl

pub returns-clause-odd_byte_image : goal.returns-clause-odd_byte_image
unfolding odd_byte_items computing
returns-clause-odd_byte_image c = yes_by odd_byte_items odd_byte_run refl refl refl refl refl refl refl

pending_write_items : List Item
pending_write_items = sends (greeted ++ gone ++ write 1 0 (171 ∷ []) ∷ read 2 0 1 ∷ []) ++ Serves (whole 1) ∷ Serves (whole 2) ∷ sends (gives 2 (255 ∷ []) ∷ [])

pending_write_run : IsRunOf Base pending_write_items
unfolding pending_write_items computing
pending_write_run = is_run pending_write_items refl refl refl refl

pub returns-clause-pending_write : goal.returns-clause-pending_write
unfolding pending_write_items computing
returns-clause-pending_write c = yes_by pending_write_items pending_write_run refl refl tt refl refl refl refl

pub returns-clause-pending_write_unserved : goal.returns-clause-pending_write_unserved
unfolding pending_write_items computing
returns-clause-pending_write_unserved c = no_by pending_write_items pending_write_run refl 0 0 refl

pub returns-clause-trimmed_read : goal.returns-clause-trimmed_read
unfolding computing
returns-clause-trimmed_read c = yes (sends (greeted ++ gone ++ trim 1 0 8 ∷ []) ++ Serves (whole 1) ∷ sends (succeeds 1 ∷ read 2 0 8 ∷ []) ++ Serves (whole 2) ∷ sends (gives 2 (1 ∷ 2 ∷ 3 ∷ 4 ∷ 5 ∷ 6 ∷ 7 ∷ 8 ∷ []) ∷ [])) refl refl refl refl refl refl tt refl refl refl refl

pub returns-clause-zeroed_read : goal.returns-clause-zeroed_read
unfolding computing
returns-clause-zeroed_read c = no (sends (greeted ++ gone ++ zero_out 1 0 8 ∷ []) ++ Serves (whole 1) ∷ sends (succeeds 1 ∷ read 2 0 8 ∷ []) ++ Serves (whole 2) ∷ sends (gives 2 (1 ∷ 2 ∷ 3 ∷ 4 ∷ 5 ∷ 6 ∷ 7 ∷ 8 ∷ []) ∷ [])) refl refl refl refl refl 1 0 refl

pub returns-clause-shared_cookie : goal.returns-clause-shared_cookie
unfolding computing
returns-clause-shared_cookie c = yes (sends (greeted ++ gone ++ read 1 0 1 ∷ []) ++ Serves (whole 1) ∷ within (write 1 4 (171 ∷ [])) (sends (gives 1 (0 ∷ []) ∷ [])) ++ Serves (whole 2) ∷ sends (succeeds 1 ∷ [])) refl refl refl refl refl refl tt refl refl refl refl

pub returns-clause-disconnection : goal.returns-clause-disconnection
unfolding computing
returns-clause-disconnection c = yes (sends (greeted ++ gone ++ write 1 0 (171 ∷ []) ∷ read 2 4 1 ∷ disconnect ∷ []) ++ Serves (whole 1) ∷ Serves (whole 2) ∷ sends (gives 2 (0 ∷ []) ∷ succeeds 1 ∷ [])) refl refl refl refl refl refl tt refl refl refl refl
