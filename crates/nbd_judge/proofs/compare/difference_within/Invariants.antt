use Rattle.nbd_judge.proofs.Common.{◌≡◌, map, IsLeast, DiffersInOneWithin}
use Rattle.nbd_judge.proofs.compare.difference_within.Given as goal

abbrev pub invariant-loop-piece : goal.invariant-loop-piece
invariant-loop-piece g l = record {
  least : IsLeast (DiffersInOneWithin (g.C.Contents.byte l.initial.contents) (map (λ p. p.now) l.met) l.piece-index l.part) l.found;
  size : g.C.Contents.size l.contents ≡ g.C.Contents.size l.initial.contents;
  bytes : g.C.Contents.byte l.contents ≡ g.C.Contents.byte l.initial.contents;
}
