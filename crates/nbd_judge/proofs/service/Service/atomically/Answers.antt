use Rattle.nbd_judge.proofs.{Common.{NamesWhole-push, whole_names}, service.Service.atomically.Goals.{in-Unnamed, in-Whole, in-InParts}}
use Rattle.nbd_judge.proofs.service.Service.atomically.Goals as goal

pub returns : goal.returns
returns c = elim c.match-self.branch [
  | in-Unnamed w ↦ rw (w.result-is, w.in-Unnamed.is) (λ span within before k is_span unnamed. ((unnamed, λ b. b), NamesWhole-push before k))
  | in-Whole w ↦ rw (w.result-is, w.in-Whole.is) (λ span within before k is_span named. whole_names before k named)
  | in-InParts w ↦ rw (w.result-is, w.in-InParts.is) (λ span within before k is_span h. h.0)
]
