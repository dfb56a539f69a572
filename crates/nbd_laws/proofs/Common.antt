-- The names that the proofs of this crate cite from elsewhere, passed on from one place. Declares nothing.
pub use Rattle.std.specs.{Prelude.{option_and_then, option_to_list}, Int.Bits.{and_zero_r, bit_and}, List.list_any}
pub use Rattle.byteorder.specs.{Endian.big_bytes, Numbers.big_number-reads_back}
pub use Rattle.nbd_laws.specs.{Announcing.{SizesAreAnnounced, announced, last_announced}, Reached.{MayStart, awaited_length, awaited_length_by, decision, judge, reply_with, IsReached, after_message, at_start}, Bytes.{OpenBytesEndRuns, RunsHoldEachSide, bytes_from, bytes_of, first_bytes}}
pub use Rattle.nbd_laws.specs.{Prefixes.{CutsDoNotCount, CompletionsStandAfterBytes, NoProperPrefix, PrefixesAreRuns, StartsStandBeforeBytes, ended_messages, started_messages}, Explaining.{ExplainedPasses, HasCountsOf, IsNoOf, IsYesOf, PassingIsExplained}, Granting.{HeadersAreGranted, HeadsAreInForce, any_grant, is_grant}}
pub use Rattle.nbd_laws.specs.{Marking.{BeginningsAreUnderWay, HaveOnePlace, PlacesBeginNoRun, PrefixesHaveNoPlace, UnderWayAgree}, Service.{LatestMoments, OrdersAreFaultless, AnswersRequest, CookiesAreDistinct, DisconnectsAreEmpty, EachReplyAnswersOne, EmptyIsExplained, IsDisconnect, NothingAfterDisconnect, RepliesEndAsTheyStart, ServedOnceAfterCompletion}}
pub use Rattle.nbd_laws.specs.{Negotiating.{AnswersFollowChoices, AreFairFlags, BeginsWithFlags, Chosen, HandshakesAreFair, IsAnswer, choice_after, contexts_after, contexts_with, info_after}, Profiles.{AnnouncesAllowed, AnswersAtOnce, BaseIsWide, DuesAgree, EndsAgree, IsParting, NothingFrom, NothingParts, PlacesAgree, RunsAgree, UnderWayAgrees, with_profile}}
pub use Rattle.nbd_laws.specs.{Replying.{IsReplyAfter, IsReplyBetween, IsStatus, RepliesAreWhole}, Soundness.{ReportsIgnoreService, SameMarks, SameReports, AreLaid, IsAfter, IsSoundAsked, IsSoundReport, ReportsAreSound}, Selecting.{AreAskedWith, AreSelected, ChooseNoOther, ChooseNone, ContextsAreSelected, ContextsStay, telling}}
pub use Rattle.nbd_laws.specs.captures.{Messages.{context_messages, opening_messages, status_asked_messages}, Openings.hasty_client}
pub use Rattle.nbd_wire.proofs.{FieldLemmas.{chunk-cookie, chunk-flags, chunk-kind, chunk-length, chunk-magic, drop-chunk, extended_chunk_fields, extended_request_fields, length-chunk, length-request, number_at-append, request-command, request-cookie, request-length, request-magic, simple-cookie, simple-magic}, ListedFormLemmas.{go-only, is_go-exact}}
pub use Rattle.nbd_wire.proofs.{NumberLemmas.{AreBytes-drop, AreBytes-snoc, number_at-lt, with_number}, QueryLemmas.{context-long, context-reads, name_is, queries_of-form, queries_of-found}}
pub use Rattle.nbd_wire.specs.declared.{entry.{Entry.Entry, Part.Part}, fault.WireFault.{WireFault, TheVariants.{BadReplyOffset, BadClientFlags, BadContent, BadDisconnect, BadExport, BadMagic, BadReplyPayload, IncompleteStatus, NotFixedNewstyle, OutOfProfile, OutOfTurn, SuccessOfImproper, UnknownCookie, WrongOption}}, limits.TheConstants.{EXPORT_SIZE, LONGEST_PAYLOAD}, magics.TheConstants.{ANSWER_MAGIC, CHUNK_MAGIC, EXTENDED_CHUNK_MAGIC, EXTENDED_REQUEST_MAGIC, GREETING_MAGIC, OPTION_MAGIC, REQUEST_MAGIC, SIMPLE_MAGIC}, message.{Message.{Message, TheVariants.{Answer, Choice, Chunk, ClientFlags, Exported, ExtendedChunk, ExtendedRequest, Greeting, Request, Simple}}, Side.{Side, TheVariants.{Client, Server}}}, payloads.{Failure.Failure, Info.{Info, TheVariants.{BlockSize, Export, Other}}, Piece.{Piece, TheVariants.Hole}}, profile.Profile.{Profile, TheVariants.{Base, Wide}}, sizes.{Sizes.Sizes, Sizing.Sizing}}
pub use Rattle.nbd_wire.specs.protocol.{Captures.{ArePairs, Pair, flat, side_pairs}, Contexts.{Context, Extent, Selection, Status, length_by}, Decisions.{request_of, magic_fault, unless, Decision, abort_answer, answer, answer_of, begins, choice, chunk_last_fault, chunk_of, chunk_to, client_flags, export_answer, greeting, operation_of, reply_in, request_by, simple_of, simple_to, Bad, More, Reading, Whole, decide, judge_in, read_by, reading_by_decision}, Encoding.AreBytes, Entries.{IsServedAt, MayServe, Names, NamesWhole, in_part, inside, inside_of, is_served, part, whole}, Explains.{FitsImage, HasNoWrongByte, IsExplainedOf, Start, Zeroes, image, start_byte}, ExportBytes.{Differs, Effect, GivesByte, IsWrong, IsWrongIn, IsWrongOf, byte_before, byte_or_start, effects, last_touch, serves}, Forms.HasGoForm, Marks.{Byte, Completes, IsMarkedBut, IsSided, IsTight, Item, MayFollow, Serves, Starts, block, completed_messages, of_side, pairs, service_order, without_service}, Negotiation.{abort_fault, answer_fault, answer_head_fault, answer_last_fault, answers_option, are_zeroes, client_flags_fault, earlier_to, export_fault, greeting_fault, info_fault, is_bad_payload, is_followed, is_good_context, is_good_info, is_wide, padding_fault, payload_fault, success_fault}, Operations.{Covers, Exporting, Operation, Success, allowed_flags, has_failed, has_range, is_error_chunk, is_finished, is_outside, may_carry, outcome, pieces, proper_on}, Options.{ack_phase, agrees, choice_phase, is_error, last_info, reply_phase, selection_after, selection_at, selection_told, takes_contexts, turn}, Orders.{HasNoOrderFault, IsBad, IsLate}, Payloads.{name_in, number_at}, Pieces.{SharesNone, byte_at, holds, is_in, piece_byte, piece_offset, piece_size, simple_piece}, Places.{IsPlace, IsPlaceOf, IsUnderWayOf}, Reading.{Both, IsFilled, Reader, Rest, fresh_of, get, old_of, on_ok, put, reads, rest_with, settle, step, with_message}, Reports.{Asked, Report, asked_at, asked_list, asked_of, due_by_chunk, due_in, due_of, export_of, first_shown, inside_in, known_count, known_from, lesser_of, operations_of}, Rules.{shown_with, Allows, IsRunBut, IsRunOf, IsServedFor, Obeys, after, cookie_of, core_with_request, ends_at, filter_in, gives, grants_structured, inside_at, inside_operation, is_by_chunk, is_extended, is_reply_to, is_this, makes_due, operation_asked, noted, reply_to, request_of_reply, written}, Sendable.carries_payload, Sides.{same_side, side}, Sizes.{are_allowed, last_sizes, sizes_of, sizing_after, sizing_at}, States.{Aborting, Answering, Choosing, Core, Ended, Flags, Greet, Naming, Phase, Shown, State, Transmission, export_in, has_contexts, in_force, is_awaiting, operation, start, start_of, target_from, with_reply, with_reply_at}, Statuses.{are_settled, is_settled, zeroes, zeroes_in}, Tests.fault_if, Transmission.{chunk_fault, chunk_head_fault, content_fault, cookie_fault, done_fault, fits_failure, fits_read, is_apart, is_apart_from, is_too_large, offset_fault, read_as, request_fault, request_payload_length, simple_fault, simple_last_fault, simple_payload_length, status_if, status_kind, total}, Verdicts.{IsFaultless, Passes, answered_count, improper_count, request_count}, Within.within}
unfoldable pub use Rattle.nbd_wire.specs.protocol.{Encoding.{enc, head, tail}, Flags.{has, has_only}, Forms.HasContextForm, Operations.{ends_reply, is_failing, is_proper}, Options.{is_proper_option, next_phase}, Payloads.{content_of, context_of, failure_of, info_of, is_go, is_listed, queries_of, status_of}, Pieces.piece_of, Reports.report, Rules.{MayComplete, MayStartIn, complete}}
unfoldable pub use Rattle.nbd_wire.specs.protocol.{Sendable.IsSendable, States.target}
pub use Rattle.std.proofs.Common.{All, Bool, Err, IsTrue, List, None, Ok, Option, Result, Some, [], add-one, ap, append-nil, append_assoc, arith, drop, eq-eqb, eq-or-lt_of_le, eqb-true, false, flat_map, if◌then◌else◌, inl, inr, is_some, le_refl, length, length-append, length-drop, lit<, lit≤, map, max, min, nat_le, nat_lt, not, refl, replicate, slice_get, subst, suc, sym, take, true, zero, ℕ, ◌&&◌, ◌++◌, ◌+◌, ◌-◌, ◌<◌, ◌==◌, ◌^◌, ◌||◌, ◌∙◌, ◌∷◌, ◌≡◌, ◌≢◌, ◌≤◌, ◌⊎◌}
pub use Rattle.std.proofs.{Math.Bool.or-false, lemmas.{Bool.{and_from, and_parts, cases_eq, eqb-false, le-leb, le-ltb, leb-false, leb-true, lt-leb, lt-ltb, ltb-false, ltb-true, ne_eqb, not-false, not-true, or_cases, or_parts}, List.{map-append, Elements.{All-cons, All-head, All-nil, All-tail, All-weaker}, Folds.list_any-append}, Nat.{and_assoc, and_le_r}, Slice.Eq.bytes_eq-Decides}}
