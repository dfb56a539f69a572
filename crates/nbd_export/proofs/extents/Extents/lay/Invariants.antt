use Rattle.nbd_export.proofs.Common.{◌≡◌, ◌-◌, ◌<◌, ◌≤◌, ℕ, None, AreSameBelow, byte_of}
use Rattle.nbd_export.specs.Extents.{size_of}
use Rattle.nbd_export.proofs.extents.Extents.lay.Given as goal

abbrev pub invariant-loop-at : goal.invariant-loop-at
invariant-loop-at l = record {
  size : size_of l.self ≡ size_of l.fn.self;
  within : l.at ≤ size_of l.fn.self;
  laid : AreSameBelow l.at (byte_of l.self) (byte_of l.fn.others);
  rest : (x : ℕ) → l.at ≤ x → x < size_of l.fn.self → byte_of l.self x ≡ None;
}

abbrev pub decreases-loop-at : goal.decreases-loop-at
decreases-loop-at l = size_of l.fn.self - l.at
