use Rattle.nbd_judge.proofs.Common.{◌≡◌, ◌<◌, ℕ, Some, take, effects, Asked, asked_at, AreSameBelow, contents_after, IsSortedAt, HasWrongFrom}
use Rattle.nbd_judge.proofs.replay.first_wrong.Given as goal

abbrev pub invariant-loop-i : goal.invariant-loop-i
invariant-loop-i g l = record {
  size : g.C.Contents.size l.contents ≡ g.C.Contents.size l.initial.contents;
  bytes : AreSameBelow (g.C.Contents.size l.initial.contents) (g.C.Contents.byte l.contents) (contents_after (effects l.transcript) (take l.i l.order) (g.C.Contents.byte l.initial.contents));
  sorted : (k : ℕ) (a : Asked) → asked_at k l.transcript.asked ≡ Some a → IsSortedAt l.reads k a.pieces;
  none : (j : ℕ) → j < l.i → HasWrongFrom l.transcript l.order (g.C.Contents.byte l.initial.contents) j → ⊥;
}
