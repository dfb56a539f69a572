-- So many bytes are known before this offset.
use Rattle.nbd_explain.proofs.Common.{◌≡◌, ◌-◌, ◌≤◌, is_some}
use Rattle.std.specs.Prelude.{count_by}
use Rattle.nbd_export.specs.{Extents.{byte_of, size_of}, Held.held_from}
use Rattle.nbd_explain.proofs.comparing.known_count.Given as goal

abbrev pub invariant-loop-at : goal.invariant-loop-at
invariant-loop-at l = record {
  within : l.at ≤ size_of l.contents;
  counted : l.count ≡ count_by is_some (held_from (byte_of l.contents) 0 l.at);
  few : l.count ≤ l.at;
}

abbrev pub decreases-loop-at : goal.decreases-loop-at
decreases-loop-at l = size_of l.contents - l.at
