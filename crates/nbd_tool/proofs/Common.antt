-- The names that the proofs of this crate cite from elsewhere, passed on from one place. Declares nothing.
pub use Rattle.nbd_capture.proofs.{FormLemmas.one_saying, OrderLineLemmas.one_entry, ReadToEndLemmas.{names_first_bad, reads_to_end, whole_text}, ReadingLemmas.one_reading, ReadingStepLemmas.{reads-append, reads_same}}
pub use Rattle.nbd_capture.specs.{Capture.{AreDigits, Chunk, IsCaptureLine, IsCaptureText, blank, byte, chunk, comment, none}, Lines.{empty, line_feed}, Order.{IsOrderLine, IsOrderText}, Reading.{NamesFirstBadLine, Reading, Reads, at_start}, Writing.AppendsPrefix, declared.{capture.CaptureFault.CaptureFault, reader.State.TheVariants.Open}}
pub use Rattle.nbd_files.specs.{RunFaults.of_capture, Starts.{IsWithinLimit, image_of}, Texts.IsText, declared.{fault.RunFault.{RunFault, TheVariants.{Memory, Write}}, input.{Text.TheVariants.Longer, TheConstants.READ_LIMIT}}}
pub use Rattle.nbd_judge.proofs.verdicts.{ChunkLemmas.{checked, told_of}, RefusalLemmas.answers_exactly, UniqueLemmas.one_answer}
pub use Rattle.nbd_judge.specs.{Captures.IsChecked, Conclusions.{Answers, IsConclusion, IsReportOf}, internal.{HasReport, IsFaultOf}}
pub use Rattle.nbd_wire.specs.{declared.{verdict.Verdict.{Verdict, TheVariants.{Content, Order, Status, Yes}}, entry.Entry.Entry, fault.WireFault.WireFault, message.Side.Side, profile.Profile.Profile}, protocol.{Captures.{Pair, side_pairs}, Explains.{IsExplainedOf, Start, image}, Marks.{Item, pairs}, Reports.Report, Rules.IsRunOf}}
pub use Rattle.nbd_session.proofs.judge.PieceLemmas.{kept_taken}
pub use Rattle.nbd_session.specs.{Following.{Follows, IsPushed, past_of}, Refusals.{EndsIn, IsRefusalOf, IsWireFaultOf, Refuses}, Sessions.{AddsPrefix, IsAtEnd, IsReported, SessionView, bytes_taken, empty_session_of, end_by, fault_at_end, fault_of, open_end_fault, pairs_of}, declared.{fault.SessionFault.{SessionFault, TheVariants.Wire}, monitor.Monitor.Monitor}}
pub use Rattle.nbd_tool.specs.{Beginnings.{IsBeginningOf, IsReadAs, room_in}, Ends.{IsFinishOf, IsOver, IsOverText, IsWireAt}, Runs.{AnswersExactly, IsCapture, IsCaptureCause, IsVerdictOn, LeavesWritten, SaysYes, Tells, flat_of, OneLine}, Verdicts.{IsYes, line}, internal.{IsFollowing, IsOverChunks, IsConcluded}}
pub use Rattle.std.proofs.Common.{Bool, Err, IfErr, IfOk, IfSome, IsTrue, List, None, Ok, OnErr, OnOk, Option, Result, Some, [], ap, append-nil, append_assoc, arith, codes, inl, inr, length, length-append, refl, replicate, rules, subst, sum_by, sym, ℕ, ◌++◌, ◌+◌, ◌<◌, ◌↔◌, ◌∙◌, ◌∷◌, ◌≡◌, ◌≤◌, ◌⊎◌}
pub use Rattle.std.proofs.lemmas.{List.{append_cancel_left, length-map, length-replicate, Sums.{sum_by-append, sum_by-cons}}, Option.IfSome_then, Result.err_from_is_err_and}
pub use Rattle.std.specs.{Io.KnownBytes.{Appends, Keeps}, Result.result_and}
pub use borrow.Author.Tests.{tests}
