-- What the definitions of this crate cite of the crates below, passed on from one place. Declares nothing.
pub use Rattle.nbd_wire.specs.Prelude.{Asked, Core, Differs, Effect, Exporting, FitsImage, GivesByte, Held, IsExplainedOf, IsFaultless, IsRunOf, IsWrong, IsWrongOf, Item, Pair, Passes, Pending, Report, Start, Transmission, asked_at, byte_at, byte_or_start, due_in, due_of, effect, effect_byte, effects, ends_at, holds, in_force, inside_asked, inside_in, is_answered, is_change, is_in, is_success, later, pairs, report, request_count, sizes_kept, start, start_byte, touch_of, touches, whole, without_service}
pub use Rattle.nbd_wire.specs.declared.{entry.{Entry.Entry, Part.Part}, payloads.Piece.Piece, profile.Profile.Profile, verdict.Verdict.Verdict}
pub use Rattle.nbd_export.specs.{Held.{held, held_from}, Ranges.AreSameBelow}
pub use Rattle.nbd_judge.specs.{Captures.SaysYes, Folding.byte_behind, Images.IsOtherSize, Beginnings.size_of, Verdicts.{IsJudged, IsVerdict}}
