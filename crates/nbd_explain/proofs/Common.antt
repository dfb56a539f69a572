-- The names that the proofs of this crate cite from elsewhere, passed on from one place. Declares nothing.
pub use Rattle.std.specs.{Prelude.option_and_then, List.list_any, Fmt.decimal, Io.KnownBytes.{Appends, Keeps}}
pub use Rattle.nbd_capture.proofs.WriterLemmas.{prefix_then, then_prefix}
pub use Rattle.nbd_capture.specs.{Order.IsOrderText, Writing.AppendsPrefix}
pub use Rattle.nbd_explain.specs.{Answering.answer_to, Arrival.{Arrives, number_lines}, Explained.{BeginsWithLine, Explains, IsExplained}, Named.{AreNamed, IsEnding, KeepsUnread, NamesAll, is_numbered, message_of, plain, AreNamed.{other, request}}}
pub use Rattle.nbd_explain.specs.{Ordering.{IsAnswered, IsOrderedFrom, IsOrderingCause, IsUnexplainedBy, LeavesOrdered, Orders, entry_lines, found_text, ordered_of, spaced_numbers, unexplained_line, IsAnswered.{gave_up, image, none_whole, order, unexplained, wire}}, Orderless.{IsTold, Tells, IsTold.found}}
pub use Rattle.nbd_explain.specs.{Shown.{OneOutput, IsShowCause, IsShown, Leads, LeavesShown, WritesAll, WritesMessages, WritesSome, IsShown.{accepted, refused}}, declared.{answer.Answer.{Answer, TheVariants.{No, Open, Yes}}, ordering.Ordered.{Ordered, TheVariants.Refuted}}}
pub use Rattle.nbd_explain.specs.internal.{Fates.{AppendsLine, AppendsNames, AreLines, AreReplies, EndsWith, fate, fate_by, fates_behind, has_cookie, outcome_by, reply_in, AreLines.{named, none}}, Lines.{Begins, HasVerdictLine, IsLineOf, IsToldBySearch, IsToldOfFound, IsToldOn, OnWritten}, Outcomes.{IsToldFrom, IsToldOf, IsToldOf.{of_refusal, of_report}}}
pub use Rattle.nbd_files.specs.{Starts.IsStartCause, declared.{fault.RunFault.{RunFault, TheVariants.{AgainstRead, CaptureLine, CaptureRead, ContentsLine, ContentsRead, ImageRead, Memory, OrderLine, OrderRead, ScriptLine, ScriptRead, Write}}, start.StartFrom.StartFrom}}
pub use Rattle.nbd_judge.proofs.{contents.StartLemmas.no_export, verdicts.{ChunkLemmas.checked, UniqueLemmas.one_wire_fault}}
pub use Rattle.nbd_judge.specs.{Captures.IsChecked, Images.IsOtherSize, Beginnings.size_of, Verdicts.wrong_verdict, internal.HasReport}
pub use Rattle.nbd_wire.specs.declared.{verdict.Verdict.Verdict, entry.Entry.Entry, fault.WireFault.{WireFault, TheVariants.Unfinished}, message.Message.{Message, TheVariants.{Choice, Chunk, ClientFlags, Exported, ExtendedChunk, ExtendedRequest, Greeting, Request, Simple}}, profile.Profile.Profile}
pub use Rattle.nbd_wire.specs.protocol.{Captures.Pair, Contexts.Context, Explains.{FitsImage, IsExplainedOf, Start, start_byte}, Marks.{Byte, Completes, Item, Serves, Starts, completed_messages, pairs, without_service}, Operations.{Exporting, Operation, ends_reply, is_failing, is_finished, outcome}, Reports.{Asked, Report, asked_list, known_count, operations_of}, Rules.{IsRunBut, IsRunOf, Obeys, after, cookie_of, core_with_request, ends_at, reply_to, request_of_reply}, States.{Core, Phase, State, Transmission, has_contexts, in_force, is_awaiting, start, start_of, target_from, with_reply, with_reply_at}, Verdicts.{Passes, request_count}}
pub use Rattle.nbd_laws.proofs.{judge.{WholeLemmas.allowed, PhaseLemmas.{in_force_stays, transmission_stays}}, requests.OutstandingLemmas.{AreDistinct, Free, distinct_complete}, runs.ProfileLemmas.at_base, service.ServiceLemmas.same_marks}
unfoldable pub use Rattle.nbd_laws.proofs.judge.WholeLemmas.{IsAllowed}
pub use Rattle.nbd_laws.specs.Soundness.{IsSoundReport}
pub use Rattle.nbd_lines.specs.{MakeCommand.of_output, Script.message_lines, declared.output.OutputFault.OutputFault}
pub use Rattle.nbd_order.proofs.FoundLemmas.{says_of, whole_wanted}
pub use Rattle.nbd_order.specs.{Finding.{AreWhole, IsFound, IsWanted, Says, arrival}, Unexplained.{IsRefutedBy, IsUnexplained}, declared.finding.{Found.{Found, TheVariants.{GaveUp, Image, NoneWhole, Order, Unexplained}}, Wanted.{Wanted, TheVariants.Any}}}
pub use Rattle.nbd_session.proofs.judge.RefusalLemmas.{no_run_of, open_end_of}
pub use Rattle.nbd_session.specs.{Refusals.{EndsIn, IsAcceptedOf, IsComplete, IsCompleteBy, IsOpenEndOf, IsRefusalOf, IsWireFaultOf}, Sessions.{HasRunOf, IsOfRun, IsReported, SessionView, bytes_taken, end_by, fault_at_end, fault_of, open_end_fault, pairs_of}, declared.fault.SessionFault.{SessionFault, TheVariants.Wire}}
pub use Rattle.nbd_state.specs.{Showing.outcome_of, Transcripts.size_and_flags, declared.asked.Outcome.{Outcome, TheVariants.{Failure, Pending, Success}}}
pub use Rattle.nbd_tool.proofs.{JudgedLemmas.verdict_on, OverLemmas.{capture_over, checked_over, fault_over, report_over, took_all}}
pub use Rattle.nbd_tool.specs.{Beginnings.{IsBeginningOf, IsReadAs, room_in}, Ends.{IsFinishOf, IsOver, IsOverText, IsWireAt, LeavesLast, is_accepted, last_line}, Runs.{IsCapture, IsCause, IsOrder, flat_of}, Verdicts.{IsYes, line, words}, declared.beginning.Beginning.{Beginning, TheVariants.Longer}}
unfoldable pub use Rattle.nbd_wire.specs.protocol.{Reports.report, Rules.{MayComplete, complete}, States.target}
pub use Rattle.std.proofs.Common.{Bool, Err, IfErr, IfOk, IfSome, IsErrAnd, List, None, Ok, OnOk, Option, Result, Some, [], ap, append-nil, append_assoc, arith, codes, drop, eqb-true, false, if◌then◌else◌, inl, inr, is_some, length, map, not, refl, rules, slice_get, slice_index, subst, suc, sym, take, true, zero, ℕ, ◌&&◌, ◌++◌, ◌+◌, ◌-◌, ◌<◌, ◌==◌, ◌||◌, ◌∙◌, ◌∷◌, ◌≡◌, ◌≤◌, ◌⊎◌}
pub use Rattle.std.proofs.{KnownBytes.Appends-trans, Math.{Bool.or-false, ListN.{drop_of_length-le, get_or}, Seq.get_or-append_seam}, lemmas.List.{drop_more, get_or_append_left, length-append, map-append, Elements.All-nil}}
pub use borrow.Author.Tests.{tests}
pub use Rattle.std.proofs.lemmas.Bool.{and_parts, not-true}
pub use Rattle.nbd_judge.specs.internal.{IsFaultOf}
