use Rattle.nbd_lines.proofs.Common.{length, encode_lower}
use Rattle.nbd_capture.proofs.WriterLemmas.{Wrote}
use Rattle.nbd_lines.proofs.chunk_writing.write_digits.Given as goal

abbrev pub invariant-loop-rest : goal.invariant-loop-rest
invariant-loop-rest g l = Wrote encode_lower (g.W.Write.contents l.initial.out) (g.W.Write.contents l.out) l.bytes l.rest

abbrev pub decreases-loop-rest : goal.decreases-loop-rest
decreases-loop-rest g l = length l.rest
