use Rattle.nbd_capture.proofs.{Common.{ℕ, List, length}, WriterLemmas.Wrote}
use Rattle.nbd_capture.proofs.writing.write_whole.Given as goal

abbrev pub invariant-loop-rest : goal.invariant-loop-rest
invariant-loop-rest g l = Wrote (λ (prefix : List ℕ). prefix) (g.W.Write.contents l.initial.out) (g.W.Write.contents l.out) l.bytes l.rest

abbrev pub decreases-loop-rest : goal.decreases-loop-rest
decreases-loop-rest g l = length l.rest
