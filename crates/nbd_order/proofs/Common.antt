-- The names that the proofs of this crate cite from elsewhere, passed on from one place. Declares nothing.
pub use Rattle.nbd_judge.proofs.{orders.ShownLemmas.{looked_up, read_shows}, verdicts.SingleLemmas.one_verdict}
pub use Rattle.nbd_judge.specs.{Beginnings.{initial_of, size_of}, Images.IsOtherSize, Uniqueness.OneVerdict, Verdicts.IsVerdict}
pub use Rattle.nbd_wire.specs.declared.{verdict.Verdict.{Verdict, TheVariants.Yes}, entry.{Entry.Entry, Part.Part}, payloads.Piece.Piece, profile.Profile.{Profile, TheVariants.{Base, Wide}}}
pub use Rattle.nbd_wire.specs.protocol.{Entries.{IsAgain, IsMisplaced, Names, in_part, is_served, whole}, Explains.{FitsImage, Held, Start, Unknown, Zeroes, start_byte}, ExportBytes.{Differs, Effect, GivesByte, IsWrong, IsWrongIn, byte_before, byte_or_start, effect, effect_byte, effects, is_success, last_touch, later, serves, touch_of, touches}, Marks.Item, Operations.{Exporting, has_range, is_change}, Pieces.{byte_at, is_in, piece_offset, piece_size}, Reports.{Asked, Report, asked_at, due_by_chunk, due_in, due_of, first_shown, inside_asked, inside_in, lesser_of, report}, Rules.IsRunOf, Verdicts.{IsFaultless, Passes, answered_count, improper_count, request_count}}
pub use Rattle.nbd_laws.specs.Explaining.{ExplainedPasses, PassingIsExplained}
pub use Rattle.nbd_order.specs.{Finding.{AreWhole, FailsArrival, FoundIsSo, IsFound, IsWanted, IsWantedOrder, Says, arrival}, Unexplained.{AreRising, IsRefutedBy, RefutedIsUnexplained, has}, declared.{finding.{Found.{Found, TheVariants.{GaveUp, NoneWhole, Order, Unexplained}}, Wanted.{Wanted, TheVariants.{Any, Whole}}}, refutation.State.State}}
pub use Rattle.nbd_order.specs.internal.{due_at, gives_byte, reads_at, IsOpen, Refutations.{AreSteps, EachSteps, Fits, HasBeginning, HasGot, HelpsNone, HelpsNot, IsBefore, IsChange, IsChangeAt, IsFitting, IsHeld, IsNoHelp, IsReadAt, IsStep, IsUnfinished, Leads, NoneIsLast, is_kept}}
pub use Rattle.nbd_state.specs.{Showing.with_counts, Transcripts.report_of_request, declared.span.Span.Span}
pub use Rattle.std.proofs.{Common.{Bool, IsTrue, List, None, Option, Some, [], ap, arith, drop, false, get_or, if◌then◌else◌, inl, inr, is_some, length, nat_le, nat_lt, not, refl, slice_get, subst, suc, sym, take, true, vec_capacity, zero, ℕ, ◌&&◌, ◌+◌, ◌<◌, ◌==◌, ◌||◌, ◌∙◌, ◌∷◌, ◌≡◌, ◌≤◌}, Math.Seq.take-length}
pub use Rattle.std.proofs.lemmas.{Bool.{and_from, and_parts, both_ways, cases_Bool, cases_eq, cases_lt, eq-eqb, eqb-true, false_from_ne_true, leb-true, lt-ltb, ltb-true, or_cases, or_from, or_left, or_right}, List.{take_all, Elements.{All-append, All-cons, All-nil}, Folds.{list_any_at, list_any_more}}, Option.{get_or_from_slice_get, slice_get_cases, slice_get_read, slice_get_within}}
pub use Rattle.std.specs.{Option.option_copied, Prelude.option_map}
