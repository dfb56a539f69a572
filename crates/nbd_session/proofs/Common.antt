-- The names that the proofs of this crate cite from elsewhere, passed on from one place. Declares nothing.
pub use Rattle.nbd_laws.proofs.judge.{AllowLemmas.no_length, AwaitedLemmas.{decision_of, held_short, in_head, in_payload, reads_below, reads_up_to}, BlockLemmas.{GoesOn, extended, judged_at_once, reads-append, with_rest}, ExactLemmas.{exact, none_refused}, KindLemmas.{failure_kind, kind_content, kind_error, kind_status, no_content, no_other, none_content, status_content, status_read}, PhaseLemmas.{IsAppended, Later-appended, Later-disconnected, Later-extended, Later-transmission, Later-turn, find, target-append}, SoundLemmas.{kept_later, sound, turn_of_reading}, SteadyLemmas.{IsDeciding, IsExtendedOrNot, begun_true, bytes_are_begun, deciding, entry-append, extended_or_not, is_chunk_reply, is_extended_reply, is_no_extended, is_no_reply, is_simple_reply, long_reply, no_chunk, short_reply}, DecideLemmas.{reply, reply_by, request_unless}}
pub use Rattle.nbd_laws.proofs.reading.{MarkLemmas.IsRead, ReaderLemmas.{AreHeld, IsFilled-snoc, IsNotBusy, IsSound, IsSoundAt, Kept, Later, Later-trans, Open, Walk, at_once, behind, ended, final, get-put_other, get-put_same, held_more, held_whole, kept, kept_next, loose, middle, none_held, old-empty, old-filled, opening, reached_of, reads_held, same_or_not, serving, some_held, with_byte}}
pub use Rattle.nbd_laws.proofs.{requests.{ContextLemmas.asked_at, LaidLemmas.pieces-snoc, SoundnessLemmas.{open_target, reports_are_sound}}, runs.{BegunLemmas.asks_only, BlockLemmas.{marked_is_walk, walk_is_marked}, PlaceLemmas.read_no_place, RunByteLemmas.{AreBytesOf, byte_from, bytes_from-cons, run_bytes}, RunLemmas.{fresh_held, marks_law, run_but_law}}}
pub use Rattle.nbd_laws.specs.{Reached.{awaited_length, awaited_length_by, decision, judge, IsReached}, Bytes.{bytes_from, bytes_of, of_two}, Selecting.AreAskedWith, Soundness.IsSoundReport}
pub use Rattle.nbd_session.specs.{Following.{Follows, IsPushed, past_of}, Incoming.{IncomingView, bytes_come, incoming_with, incoming_with_by, nothing_come}, Pushed.{PushedHoldsEachSide, Stretch, bytes_after_stretch, mixture, stretch_bytes}, Refusals.{EndsIn, IsAcceptedOf, IsComplete, IsCompleteBy, IsOpenEndOf, IsRefusalOf, IsWireFaultOf, Refuses}}
pub use Rattle.nbd_session.specs.{Sessions.{Adds, AddsPrefix, HasRunOf, IsAtEnd, IsOfRun, IsReported, SessionView, bytes_taken, empty_session_of, end_by, fault_at_end, fault_of, open_end_fault, pairs_of}, Views.{session_view, stretches_of}}
pub use Rattle.nbd_session.specs.declared.{deciding.Form.Form, expected.Expected.{Expected, TheVariants.{Answer, Choice, Chunk, ClientFlags, Exported, Greeting, Request, Simple}}, fault.SessionFault.{SessionFault, TheVariants.{Memory, Wire}}, log.Log.Log, monitor.Monitor.Monitor}
pub use Rattle.nbd_session.specs.internal.{done_by, elsewhere_fault, finish_by, is_bad_disconnect, is_beyond, is_simple_forbidden, is_status, lacks_by, decision_by_count, operation_counted, within, Logging.{AreStretchesOf, is_of, stretches_with, HasStretches, IsLogged}, Expecting.{sets_more, HasHeadLength, InTransmission, IsChunkOf, IsExpectedOf, IsFormFound, IsFormOf, IsPlaceOf, IsPlaced, IsRefusedHead, IsReplyForm, IsSimpleOf, StandsIn, chunk_fault_by, chunk_fault_to, expected_decision, form_length, head_fault_by, is_too_long, last_fault_by, message_of, payload_length_of, place_answered, request_with, success_fault_if}, Known.{holding_of, incoming_of, with_expected, with_incoming, IsCome, IsExpected, IsKnown, IsShort, awaited, decided, is_come_by, is_known_by}, Leading.{chunk_fields, chunk_head_length, chunk_magic, request_fields, request_head_length, request_head_of, request_magic, some_if}, Standing.{Holding, IsReadTo, Past, completed, count_at_server, rest_of, sent, with_bytes, with_more}, Steps.{HoldsRun, IsExpecting, IsHeadRefused, IsKept, IsKeptBy, IsShut, IsTaken, IsWhole, Knows, Stands, knows_by}}
pub use Rattle.nbd_state.proofs.{HeadLemmas.{chunk_cookie, chunk_ends, chunk_fails, chunk_gives}, PlacedLemmas.{place_shows_operation, shown_length}, RecordingLemmas.{told_with, told_without}, ReplyLemmas.{any-snoc, or-false, proper-same}, TellingLemmas.unnoted}
pub use Rattle.nbd_state.specs.{Shows.{Answers, MayTake, AreKnown, AreShown, Shows, ended_if, export_shown_if, known_if, phase_shown, shown_if}, Places.{chunk_of, chunk_with, place_at}, Showing.{shown_in, IsShown, exporting_if}, Transcripts.{export_of, report_of_request, transcript_report}, declared.{asked.Exchange.Exchange, state.{Chosen.Chosen, Export.Export, State.State}}}
pub use Rattle.nbd_wire.proofs.{FieldLemmas.number_at-append, HeadLemmas.{answer-found, answer-only, choice-found, choice-only, chunk-found, client_flags-found, export-found, extended_chunk-found, extended_request-found, extended_request-only, greeting-found, greeting-only, request-found, request-only, simple-found}, NumberLemmas.{AreBytes-from_places, number_at-lt}}
pub use Rattle.nbd_wire.specs.codec.{Contents.{extent_of, piece_of, Reads}, Heads.{IsAnswerHead, IsChoiceHead, IsChunkHead, IsClientFlagsHead, IsExportHead, IsExtendedChunkHead, IsExtendedRequestHead, IsGreetingHead, IsRequestHead, IsSimpleHead}}
pub use Rattle.nbd_wire.specs.declared.{fault.WireFault.{WireFault, TheVariants.{BadChunk, BadClientFlags, BadContent, BadDisconnect, BadExport, BadMagic, ExportTooLarge, NotFixedNewstyle, OutOfProfile, OutOfTurn, SimpleForbidden, Unfinished}}, heads.{negotiation.{AnswerHead.AnswerHead, ChoiceHead.ChoiceHead}, transmission.{ChunkHead.ChunkHead, RequestHead.RequestHead, SimpleHead.SimpleHead}}, limits.TheConstants.EXPORT_SIZE, magics.TheConstants.{ANSWER_MAGIC, CHUNK_MAGIC, EXTENDED_CHUNK_MAGIC, EXTENDED_REQUEST_MAGIC, GREETING_MAGIC, OPTION_MAGIC, REQUEST_MAGIC, SIMPLE_MAGIC}, message.{Message.Message, Side.{Side, TheVariants.{Client, Server}}}, payloads.{Failure.Failure, Piece.Piece}, profile.Profile.Profile}
pub use Rattle.nbd_wire.specs.protocol.{Captures.{ArePairs, Pair, side_pairs}, Contexts.{Extent, Status, reach}, Decisions.{Decision, abort_answer, answer, begins, choice, client_flags, export_answer, greeting, magic_fault, operation_of, reply_in, request_by, simple_to, Bad, More, Reading, Whole, decision_with, read_by, reading_by_decision}, Encoding.{AreBytes, enc}, Flags.has, Marks.{Byte, Completes, Item, completed_messages, pairs}, Negotiation.{abort_fault, answer_fault, answer_head_fault, answer_last_fault, are_zeroes, client_flags_fault, earlier_to, export_fault, padding_fault, payload_fault}, Operations.{Exporting, Operation, has_failed, is_error_chunk, is_failing, is_finished, is_proper, pieces}, Options.{is_error, is_proper_option, takes_contexts}, Payloads.{extents_of, failure_of, number_at, status_of}, Pieces.piece_size, Places.IsUnderWayOf, Reading.{Both, IsFilled, Reader, Rest, fresh_of, get, old_of, on_ok, put, reads, rest_with, settle, step}, Reports.{asked_list, asked_of}, Rules.{IsRunBut, IsRunOf, MayComplete, Obeys, after, complete, cookie_of, is_reply_to, is_this, noted}, Sendable.IsSendable, Sides.{same_side, side}, States.{Aborting, Answering, Choosing, Core, Flags, Greet, Naming, Phase, Shown, Transmission, export_in, in_force, operation, start_of, target_from, with_reply}, Statuses.{but_last, is_settled, status_in}, Tests.fault_if, Transmission.{request_payload_length, chunk_fault, content_fault, cookie_fault, done_fault, finish_fault, fits_failure, fits_read, fits_status, read_as, simple_fault, simple_last_fault, simple_payload_length, status_if, status_kind, total}, Within.{CompletesExactlyOf, IsOfNoRunOf}}
unfoldable pub use Rattle.nbd_wire.specs.protocol.{Payloads.content_of, Reports.report, States.target}
pub use Rattle.std.proofs.Common.{Bool, Bor, Err, Fits, IfErr, IfOk, IsErrAnd, List, None, Ok, OnErr, OnOk, Option, Result, Some, [], add-one, add_assoc, ap, append-nil, append_assoc, arith, drop, eq-eqb, eqb-true, false, fold, get_or, if◌then◌else◌, inl, inr, is_some, leb-true, length, length-append, length-drop, ltb-false, ltb-true, map, min, nat_le, nat_lt, not, refl, rules, slice_get, slice_index_or, slice_set, subst, suc, sym, take, true, w8, zero, zero-add, ℕ, ◌&&◌, ◌++◌, ◌+◌, ◌-◌, ◌<◌, ◌==◌, ◌||◌, ◌∙◌, ◌∷◌, ◌≡◌, ◌≤◌, ◌⊎◌}
pub use Rattle.std.proofs.Math.Seq.{drop-append_seam, take-add, take-length}
pub use Rattle.std.proofs.lemmas.{Bool.{and_from, and_parts, false≢true, le-leb, le-ltb, lt-leb, lt-ltb, not-false, not-true}, Iterator.{YieldsList-from_slice, Search.all_from_yields_List}, List.{append_cancel_left, drop-append-le, length-map, length-take-le, take-append-drop, take-append-le, Sums.sum_by-cons}, Option.{same_Some, slice_get-get_or, slice_get_past, slice_get_read}, Slice.take-put_mid}
pub use Rattle.std.specs.{Bool.then_some, List.list_all, Option.option_copied, Prelude.{option_to_list, option_and_then}, Result.is_err, Slice.IsItemAt}
pub use borrow.Author.Tests.{tests}
