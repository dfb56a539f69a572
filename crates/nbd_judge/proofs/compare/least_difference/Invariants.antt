use Rattle.nbd_judge.proofs.Common.{◌≡◌, map, IsLeast, DiffersInOneOf}
use Rattle.nbd_judge.proofs.compare.least_difference.Given as goal

abbrev pub invariant-loop-piece : goal.invariant-loop-piece
invariant-loop-piece g l = record {
  least : IsLeast (DiffersInOneOf (g.C.Contents.byte l.initial.contents) (map (λ p. p.now) l.pieces) l.piece-index) l.found;
  size : g.C.Contents.size l.contents ≡ g.C.Contents.size l.initial.contents;
  bytes : g.C.Contents.byte l.contents ≡ g.C.Contents.byte l.initial.contents;
}
