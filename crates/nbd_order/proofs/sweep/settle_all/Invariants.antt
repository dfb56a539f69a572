use Rattle.nbd_order.proofs.Common.{◌≡◌, ◌<◌, ◌≤◌, ℕ, drop}
use Rattle.nbd_export.specs.Extents.{byte_of, size_of}
use Rattle.nbd_order.specs.{Sure.sure, internal.Here.stretch_here}
use Rattle.nbd_order.proofs.sweep.settle_all.Given as goal

abbrev pub invariant-loop-stretch : goal.invariant-loop-stretch
invariant-loop-stretch l = record {
  size : size_of l.contents ≡ size_of l.fn.contents;
  within : l.at ≤ size_of l.fn.contents;
  left : (x : ℕ) → l.at ≤ x → x < size_of l.fn.contents → stretch_here (drop l.stretch-index l.stretches) x ≡ stretch_here l.stretches x;
  done : (x : ℕ) → x < l.at → byte_of l.contents x ≡ sure l.transcript (byte_of l.fn.contents) x;
  rest : (x : ℕ) → l.at ≤ x → x < size_of l.fn.contents → byte_of l.contents x ≡ byte_of l.fn.contents x;
}
