-- What the definitions of this crate cite of the crates below, passed on from one place. Declares nothing.
pub use Rattle.nbd_wire.specs.Prelude.{Asked, Effect, Exporting, FitsImage, IsExplainedOf, IsFirst, IsOfNoRunOf, IsRunBut, IsRunOf, IsWrongIn, Item, Pair, Report, Start, completed_messages, cookie_of, ends_at, ends_reply, filter_in, has_contexts, is_failing, length_by, pairs, report, request_count, start_byte, start_of, written}
pub use Rattle.nbd_wire.specs.declared.{entry.Entry.Entry, fault.WireFault.WireFault, message.Message.{Message, TheVariants.{ExtendedRequest, Request}}, profile.Profile.Profile, verdict.Verdict.Verdict}
pub use Rattle.nbd_capture.specs.{Capture.{Chunk, IsCaptureText}, Contents.printed, Lines.line_feed, Order.{IsOrderText, entry_text}, Writing.AppendsPrefix}
pub use Rattle.nbd_files.specs.{RunFaults.status, Starts.{IsStartCause, IsWithinLimit}, declared.{fault.RunFault.{RunFault, TheVariants.{AgainstRead, CaptureLine, CaptureRead, Write}}, start.StartFrom.StartFrom}}
pub use Rattle.nbd_lines.specs.Script.{message_lines}
pub use Rattle.nbd_state.specs.Showing.{outcome_of}
pub use Rattle.nbd_session.specs.{Refusals.IsWireFaultOf, Sessions.HasRunOf, declared.fault.SessionFault.SessionFault}
pub use Rattle.nbd_export.specs.{Extents.byte_of, Held.{Held, held, held_from}, Ranges.{DiffersIn, IsLeast, bytes_from}, declared.extents.Extents.Extents}
pub use Rattle.nbd_judge.specs.{Captures.{IsChecked, SaysYes}, Conclusions.{Answers, IsConclusion, IsReportOf}, Images.IsOtherSize, Beginnings.size_of, Verdicts.wrong_verdict}
pub use Rattle.nbd_search.specs.declared.proposal.Reason.{Reason, TheVariants.{Mistake, States, Steps}}
pub use Rattle.nbd_order.specs.{Finding.{IsFound, IsWanted, IsWantedOrder, Says, arrival}, Leaving.{IsLeft, left}, Sure.{IsLeftByEach, sure}, Unexplained.{IsRefutedBy, IsUnexplained}, declared.{finding.{Found.{Found, TheVariants.{GaveUp, NoneWhole, Order, Unexplained}}, Wanted.{Wanted, TheVariants.{Any, Whole}}}, leaving.Left.{Left, TheVariants.{Contents, NoExport, Refused}}}}
pub use Rattle.nbd_tool.specs.{Beginnings.{IsBeginningOf, IsReadAs, room_in}, Runs.{IsCapture, IsCaptureCause, IsCause, IsOrderCause, IsVerdictOn, flat_of}, Verdicts.{IsYes, line, words}, declared.beginning.Beginning.Beginning}
