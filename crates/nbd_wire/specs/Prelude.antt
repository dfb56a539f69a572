-- The definitions of the protocol that other crates cite, passed on from one place. Declares nothing.
pub use Rattle.nbd_wire.specs.protocol.{Sides.{same_side, side}, Encoding.{AreBytes, enc}, Contexts.{Context, Extent, Filter, Status, are_once, has_id, is_among, is_left_out, length_by, no_selection, reach}, Payloads.{content_of, context_of, extents_of, failure_of, ids_of, info_of, number_at, queries_of, status_of}}
pub use Rattle.nbd_wire.specs.protocol.{Forms.{HasGoForm, HasQueriesForm}, Sizes.{are_allowed, asks_sizes, last_sizes, sizes_for, sizes_kept, sizes_of}, Sendable.{IsSendable, carries_payload}, Captures.{ArePairs, Pair, flat, side_pairs}}
pub use Rattle.nbd_wire.specs.protocol.{Marks.{Byte, Completes, Item, Serves, Starts, completed_messages, pairs, service_order, without_service}, Flags.{has, has_only}, Pieces.{SharesNone, byte_at, holds, is_in, piece_byte, piece_offset, piece_size}}
pub use Rattle.nbd_wire.specs.protocol.{Operations.{Exporting, Failure, Operation, Outcome, Pending, Success, asks_status, ends_reply, has_failed, has_range, is_change, is_chunked, is_error_chunk, is_failing, is_finished, is_outside, is_proper, outcome, pieces, takes_filter}}
pub use Rattle.nbd_wire.specs.protocol.{Statuses.{are_settled, but_last, is_allocation, is_settled, status_in, zeroes, zeroes_in}, Entries.{IsAgain, IsMisplaced, IsServedAt, MayServe, Names, NamesWhole, in_part, is_served, part, whole}}
pub use Rattle.nbd_wire.specs.protocol.{States.{Answering, Core, Phase, Shown, State, Transmission, export_in, has_contexts, in_force, is_awaiting, operation, start, start_of, target, target_from, with_reply, with_reply_at}}
pub use Rattle.nbd_wire.specs.protocol.{Options.{ack_phase, agrees, is_error, is_proper_option, last_info, next_phase, reply_phase, selection_after, selection_at, selection_told, takes_contexts}, Tests.fault_if}
pub use Rattle.nbd_wire.specs.protocol.{Negotiation.{abort_fault, ack_fault, answer_fault, answers_option, are_zeroes, earlier_to, extends, info_fault, is_bad_payload, is_followed, is_good_context, is_good_info, padding_fault, payload_fault, success_fault}}
pub use Rattle.nbd_wire.specs.protocol.{Transmission.{chunk_fault, chunk_head_fault, cookie_fault, fits_failure, fits_range, fits_read, fits_status, is_apart, is_apart_from, is_too_large, offset_fault, read_as, request_payload_length, simple_fault, simple_last_fault, simple_payload_length, status_kind, total}}
pub use Rattle.nbd_wire.specs.protocol.{Decisions.{Bad, Decision, Reading, abort_answer, answer, begins, choice, client_flags, decision_with, export_answer, greeting, judge_in, operation_of, reading_by_decision, reply_in, request_by}}
pub use Rattle.nbd_wire.specs.protocol.{Rules.{IsRunBut, IsRunOf, MayComplete, MayStartIn, Obeys, after, complete, cookie_of, core_with_reply, core_with_request, ends_at, filter_in, grants_structured, inside_at, inside_operation, is_extended, is_reply_to, is_this, makes_due, noted, reply_to, request_of_reply, shown_with, written}}
pub use Rattle.nbd_wire.specs.protocol.{Within.{Begins, BeginsNoRunOf, CompletesExactlyOf, IsOfNoRunOf, within}, Reading.{Both, IsFilled, Reader, fresh_of, get, old_of, reads, with_message}, Places.{IsPlace, IsPlaceOf, IsUnderWayOf}}
pub use Rattle.nbd_wire.specs.protocol.{Reports.{Asked, Report, asked_at, asked_list, asked_of, due_by_chunk, due_in, due_of, export_of, first_shown, inside_asked, inside_in, known_count, lesser_of, operations_of, report}}
pub use Rattle.nbd_wire.specs.protocol.{ExportBytes.{Differs, Effect, GivesByte, IsWrong, IsWrongIn, IsWrongOf, byte_before, byte_or_start, effect, effect_byte, effects, is_success, last_touch, later, serves, touch_of, touches}, Explains.{FitsImage, Held, IsExplainedOf, Start, Unknown, Zeroes, image, start_byte}}
pub use Rattle.nbd_wire.specs.protocol.{Orders.{IsBad, IsBadPart, IsDue, IsFaultAt, IsFirst, IsLate, IsMissing, IsNotCovered, IsUnserved, NamesAgain, NamesNone}}
pub use Rattle.nbd_wire.specs.protocol.{Verdicts.{IsFaultless, Passes, answered_count, improper_count, is_answered, request_count}}
