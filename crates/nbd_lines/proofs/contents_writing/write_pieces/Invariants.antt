use Rattle.nbd_lines.proofs.{Common.{◌≤◌, ◌-◌, piece_lines}, UnwrittenLemmas.{Left, unwritten}}
use Rattle.nbd_lines.specs.internal.{AreBytes, left}
use Rattle.nbd_export.specs.Extents.{size_of}
use Rattle.nbd_lines.proofs.contents_writing.write_pieces.Given as goal

abbrev pub invariant-loop-at : goal.invariant-loop-at
invariant-loop-at g l = record {
  begun : l.from ≤ l.at;
  within : l.at ≤ size_of l.contents;
  bytes : AreBytes l.contents 0 l.at;
  wrote : Left (g.W.Write.contents l.fn.out) (g.W.Write.contents l.out) (piece_lines 0 (left l.contents 0)) (unwritten l.kind l.from l.at (left l.contents l.at));
}

abbrev pub decreases-loop-at : goal.decreases-loop-at
decreases-loop-at g l = size_of l.contents - l.at
