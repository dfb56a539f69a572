-- The names that the proofs of this crate cite from elsewhere, passed on from one place. Declares nothing.
pub use Rattle.nbd_export.specs.{Extents.byte_of, Ranges.{AreSameBelow, DiffersIn, IsLeast, bytes_from, overlay, zeroes}}
pub use Rattle.nbd_judge.specs.{Beginnings.{initial_of, size_of}, Captures.{HasVerdict, IsChecked, SaysYes, records_of}, Conclusions.{Answers, IsConclusion, IsReportOf, VerdictsAnswerRuns}, Folding.{Folding, contents_after, contents_with_effect}, Images.IsOtherSize, Verdicts.{IsOrderFault, FirstWrongFrom, FirstWrongOf, HasWrongFrom, IsJudged, IsVerdict}}
pub use Rattle.nbd_judge.specs.{Uniqueness.{AnswersAtOnceIn, NothingPartsIn, VerdictsAgree, with_improper, OneAnswer, OneJudgement, OneVerdict, OneWireFault}, declared.service.{Parts.Parts, Service.{Service, TheVariants.{InParts, Unnamed, Whole}}}}
pub use Rattle.nbd_judge.specs.internal.{given_length, HasReport, IsFair, IsLeastDue, ServesDue, ShowsIn, is_above, IsPartIn, IsServable, served_span, IsFaultOf, Pieces.{AddsSorted, AreApart, AreInOrder, AreInside, AreSorted, AreThose, DiffersInOneOf, DiffersInOneWithin, DiffersInPiece, DiffersWithin, IsOneOf, IsSortedAt}, Services.{AreParts, AreServices, IsAllServed, IsBadAt, IsFaultAfter, IsFaultOfService, IsFirstBad, IsNext, IsServiceAfter, IsServiceOf, IsShownAt, IsSpanOf, IsUnservedBy, LieApart, TellsFaultOf, TellsUnserved, has_inside, part_pieces, parts_of, span_if, span_of_asked}}
pub use Rattle.nbd_wire.specs.declared.{verdict.{OrderFault.{OrderFault, TheVariants.{BadPart, Late, Missing, NoSuchRequest, NotCovered, Twice}}, Verdict.{Verdict, TheVariants.{Content, Image, Order, Status, Wire, Yes}}}, entry.{Entry.Entry, Part.Part}, fault.WireFault.WireFault, message.{Message.{Message, TheVariants.{Answer, Choice, Chunk, ClientFlags, Exported, ExtendedChunk, ExtendedRequest, Greeting, Request, Simple}}, Side.{Side, TheVariants.{Client, Server}}}, payloads.Piece.{Piece, TheVariants.{Bytes, Hole}}, profile.Profile.Profile}
pub use Rattle.nbd_wire.specs.protocol.{Captures.{ArePairs, Pair, flat, side_pairs}, Encoding.AreBytes, Entries.{IsAgain, IsMisplaced, IsServedAt, MayServe, Names, NamesWhole, in_part, inside, inside_of, is_served}, Explains.{FitsImage, IsExplainedOf, Start, start_byte}, ExportBytes.{Effect, GivesByte, IsWrong, IsWrongIn, IsWrongOf, byte_before, byte_or_start, effect, effect_byte, effects, is_success, last_touch, later, serves, touch_of, touches}, Marks.{Item, pairs, without_service}, Operations.{Exporting, Failure, Outcome, Pending, Success, has_range, is_change, is_chunked}, Orders.{HasNoOrderFault, IsBad, IsBadPart, IsDue, IsFirst, IsLate, IsUnserved, NamesAgain, NamesNone, IsFaultAt}, Pieces.{SharesNone, byte_at, holds, is_in, piece_byte, piece_offset, piece_size}, Places.{IsPlaceOf, IsUnderWayOf}, Reading.{Both, fresh_of, reads, Reader}, Reports.{Asked, Report, asked_at, due_by_chunk, due_in, due_of, first_shown, inside_asked, inside_in, lesser_of, report}, Rules.{IsRunOf, Obeys}, States.{Shown, State, start_of}, Transmission.{is_apart, is_apart_from, total}, Verdicts.{IsFaultless, Passes, answered_count, improper_count, is_amiss, is_answered, request_count}, Within.CompletesExactlyOf}
pub use Rattle.nbd_laws.proofs.{judge.CoverLemmas.{apart_from-shares, covered_total, full_total_covers, no_overlap, total_within}, reading.ReaderLemmas.{Busy, Idle, Loose, Open, Walk, ended, final, loose, middle, opening, serving}, requests.LaidLemmas.apart_snoc}
pub use Rattle.nbd_laws.proofs.runs.{AgreeLemmas.{dues_agree, nothing_before, places_agree, runs_agree, under_way_in}, FollowLemmas.{each_with, pairs_unserved}, PlaceLemmas.{but_last, one_place, places_begin_no_run, prefixes_have_no_place, read_no_place, under_way_agree}, RunLemmas.walk_of}
pub use Rattle.nbd_laws.proofs.service.{EntryLemmas.{Names-left, Names-push, Names-push_cases, NamesWhole-left, NamesWhole-push, served_atomically, whole_names}, ExplainingLemmas.{explained_passes, passing_is_explained}, MomentLemmas.orders_are_faultless, ServiceLemmas.{reports_ignore_service, same_reports}}
pub use Rattle.nbd_laws.specs.{Explaining.{ExplainedPasses, IsNoOf, PassingIsExplained}, Service.OrdersAreFaultless, Profiles.NothingParts, Soundness.{SameReports, IsSoundAsked, IsSoundReport}, Reached.judge}
pub use Rattle.nbd_session.proofs.{judge.{PieceLemmas.length-sent, RefusalLemmas.{completes_exactly, no_run_of}}, pushed.PushLemmas.sent-append}
pub use Rattle.nbd_session.specs.{Refusals.{EndsIn, IsOpenEndOf, IsRefusalOf, IsWireFaultOf, Refuses}, Sessions.{AddsPrefix, IsAtEnd, IsReported, SessionView, pairs_of}, declared.fault.SessionFault.{SessionFault, TheVariants.Memory}}
pub use Rattle.nbd_state.proofs.IndexLemmas.{index-more, index-none}
pub use Rattle.nbd_state.specs.{Indexes.{HasMore, IsApart, IsBare, IsFree, IsHeld, IsIndex, Meets}, Showing.{shown_in, with_counts}, Sizes.sizes_of, Places.span_of, Transcripts.{report_of_request, report_of_request_if, size_and_flags}, declared.span.Span.Span}
unfoldable pub use Rattle.nbd_wire.specs.protocol.{Encoding.{enc, head, tail}, Sendable.IsSendable}
pub use Rattle.std.proofs.Common.{Bool, Bor, Err, IfErr, IfOk, IsErrAnd, IsTrue, List, MatchOption, None, Ok, OnOk, Option, Result, Some, [], add-one, ap, append-nil, append_assoc, arith, cond, count_by, drop, drop-cons, eq-eqb, eqb-true, false, filter, get_or, if◌then◌else◌, inl, inr, is_some, le_refl, length, length-append, map, max, min, nat_le, nat_lt, not, refl, replicate, rules, slice_get, slice_index_or, slice_range, slice_set, subst, suc, sum_by, sym, take, true, zero, ℕ, ◌&&◌, ◌++◌, ◌+◌, ◌-◌, ◌/◌, ◌<◌, ◌==◌, ◌^◌, ◌||◌, ◌∙◌, ◌∷◌, ◌≡◌, ◌≤◌, ◌⊎◌}
pub use Rattle.std.proofs.Math.{Bool.{and-false, and-true, and_assoc, or-true}, Nat.mod-lt, Seq.take-length}
pub use Rattle.std.proofs.lemmas.{Bool.{and_from, and_parts, cases_Bool, cases_eq, cases_lt, le-leb, leb-false, leb-true, lt-ltb, ltb-false, ltb-true, or_cases, Decides.nat_tests}, Fn.filter_same, List.{get_or-replicate, length-drop, length-map, length-replicate, length-take-le, take-append-drop, take_all, take_more, Sorted.{Contains-permutation, IsNonDecreasingBy-drop, IsNonDecreasingBy-from_sort_by_key, IsNonDecreasingBy-take, IsPartitionPoint-from_clause, IsPartitionedBy-leb, IsPartitionedBy-ltb, IsPermutation-map, IsPermutation-sym, sum_by-IsPermutation}, Sums.{count_by_more_no, count_by_more_yes, sum_by-cons}}, Option.{get_or_from_slice_get, slice_get-get_or, slice_get-map, slice_get_cases, slice_get_past, slice_get_read, slice_get_within}, Result.IfOk-weaker}
pub use Rattle.std.specs.{BTreeMap.{BTreeMap, get}, Int.bytes_high_first, List.{Contains, Sorted.{IsNonDecreasingBy, IsPartitionPoint, IsPermutation}}, Option.{option_copied, option_map}, Ordering.nat_cmp, Prelude.{◌↔◌}, Slice.IsItemAt, declared.{alloc.Global.Global, vec.Vec.Vec}}
