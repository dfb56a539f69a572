use Rattle.nbd_lines.proofs.{Common.{map, made_chunk}, MadeLineLemmas.{chunks_of_bytes, made_capture}}
use Rattle.nbd_lines.proofs.laws.made_lines_are_a_capture.Goals as goal

pub returns : goal.returns
returns c = λ messages s. made_capture messages (c.written_chunks_are_read.ensures (map made_chunk messages) (chunks_of_bytes messages s))
