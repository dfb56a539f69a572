-- What the definitions of this crate cite of the crates below, passed on from one place. Declares nothing.
pub use Rattle.nbd_wire.specs.Prelude.{IsExplainedOf, IsRunOf, Item, Pair, Report, Start, flat, image, pairs}
pub use Rattle.nbd_wire.specs.declared.{entry.Entry.Entry, fault.WireFault.{WireFault, TheVariants.{BadChunk, BadClientFlags, BadContent, BadDisconnect, BadExport, BadMagic, BadReplyKind, BadReplyOffset, BadReplyPayload, ChunkForbidden, CookieInUse, ExportTooLarge, IncompleteRead, IncompleteStatus, MissingExportInfo, NotFixedNewstyle, OutOfProfile, OutOfTurn, SimpleForbidden, SuccessOfImproper, Unfinished, UnknownCookie, WrongOption}}, profile.Profile.Profile, verdict.{OrderFault.{OrderFault, TheVariants.{BadPart, Late, Missing, NoSuchRequest, NotCovered, Twice}}, Verdict.{Verdict, TheVariants.{Content, Image, Order, Status, Wire, Yes}}}}
pub use Rattle.nbd_capture.specs.{Capture.{Chunk, IsCaptureText, IsFirstBadCaptureLine}, Contents.IsFirstBadContentsLine, Order.{IsFirstBadOrderLine, IsOrderText}, Writing.AppendsPrefix}
pub use Rattle.nbd_files.specs.{Starts.IsStartCause, declared.{fault.RunFault.{RunFault, TheVariants.{CaptureLine, CaptureRead, ContentsLine, ContentsRead, Memory, OrderLine, OrderRead, Write}}, start.StartFrom.StartFrom}}
pub use Rattle.nbd_session.specs.{Following.Follows, Refusals.{EndsIn, Refuses}, Sessions.{IsReported, SessionView, bytes_taken, fault_at_end, fault_of, pairs_of}, declared.{fault.SessionFault.SessionFault, monitor.Monitor.Monitor}}
pub use Rattle.nbd_judge.specs.{Beginnings.{initial_of, size_of}, Captures.IsChecked, Conclusions.{Answers, IsConclusion, IsReportOf}}
