-- What is kept of an image.
use Rattle.nbd_tool.proofs.Common.{ℕ, List, None, Some, IfSome, refl, sym, replicate, ◌<◌, length-replicate, image, image_of, IsText, Longer, IsBeginningOf}
use Rattle.std.specs.Prelude.{Option}
use Rattle.nbd_tool.specs.declared.beginning.Beginning.TheVariants as Beginning

-- an image that was counted
pub longer_read : (known : Option (List ℕ)) (room n : ℕ) → IfSome known (IsText room (Longer n)) → room < n → IsBeginningOf (image_of known) room (Beginning.Longer n)
longer_read None room n counted l = record {
  initial = image (replicate n 0);
  is_read = (replicate n 0, refl, sym (length-replicate n 0), l);
  is_known = tt;
}
longer_read (Some bytes) room n counted l = record {
  initial = image bytes;
  is_read = (bytes, refl, counted.0, counted.1);
  is_known = refl;
}
