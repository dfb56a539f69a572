-- So many bytes were read, and where there is room for them they stand in the text.
use Rattle.nbd_files.proofs.{Common.{◌≡◌, ◌≤◌, ◌+◌, ◌-◌, length, vec_capacity, vec_items, READ_LIMIT, PORTION}, InputLemmas.HasRead}
use Rattle.nbd_files.proofs.input.read_into.Given as goal

abbrev pub invariant-loop-count : goal.invariant-loop-count
invariant-loop-count g l = record {
  read : HasRead (g.R.Read.remaining l.initial.reader) (g.R.Read.remaining l.reader) l.count l.room (vec_items l.text);
  room : l.count ≤ l.room → vec_capacity l.initial.text ≤ vec_capacity l.text;
  portion : length l.portion ≡ PORTION;
}

abbrev pub decreases-loop-count : goal.decreases-loop-count
decreases-loop-count g l = READ_LIMIT + 1 - l.count
