use Rattle.nbd_state.proofs.Common.{◌≡◌, ℕ, List, Some, arith, drop, Bytes, content_of}
use Rattle.nbd_state.proofs.recording.content_piece.Goals as goal

-- the data of a chunk stands behind its offset
data_behind : (kind : ℕ) (bytes : List ℕ) (o : ℕ) (behind : List ℕ) → content_of kind bytes ≡ Some (Bytes o behind) → drop 8 bytes ≡ behind
unfolding content_of
data_behind kind bytes o behind h = grind arith

pub returns-in_ok-bytes-in-Some-Bytes : goal.returns-in_ok-bytes-in-Some-Bytes
returns-in_ok-bytes-in-Some-Bytes c = grind (arith, data_behind)
