use Rattle.nbd_order.proofs.Common.{◌≡◌, drop}
use Rattle.nbd_export.specs.Ranges.{AreSameBelow}
use Rattle.nbd_order.specs.Leaving.{forgotten}
use Rattle.nbd_order.proofs.leaving.forget_open.Given as goal

abbrev pub invariant-loop-i : goal.invariant-loop-i
invariant-loop-i g l = record {
  size : g.C.Contents.size l.contents ≡ g.C.Contents.size l.fn.contents;
  done : AreSameBelow (g.C.Contents.size l.fn.contents) (forgotten (drop l.i l.fn.transcript.asked) (g.C.Contents.byte l.contents)) (forgotten l.fn.transcript.asked (g.C.Contents.byte l.fn.contents));
}
