-- The names that the proofs of this crate cite from elsewhere, passed on from one place. Declares nothing.
pub use Rattle.nbd_laws.proofs.judge.{WholeLemmas.{AnswersOne, allowed}, AllowLemmas.{MayAsk, ask_allow, extended_ask_allow}, PhaseLemmas.{IsFound, find}, KindLemmas.status_content}
pub use Rattle.nbd_laws.proofs.{requests.{ContextLemmas.{asked_answered, asked_snoc}, LaidLemmas.pieces-snoc, OutstandingLemmas.{AreDistinct, Free, distinct_complete, free_at}, SoundnessLemmas.{InPhase, open_target, proper_range, sound}, ZeroLemmas.{none_of_none, zero_part}}, service.{DueLemmas.noted_none, EntryLemmas.same_number}}
unfoldable pub use Rattle.nbd_laws.proofs.judge.WholeLemmas.{IsAllowed}
pub use Rattle.nbd_laws.specs.{Reached.{IsReached, after_message, at_start}, Selecting.AreAskedWith}
pub use Rattle.nbd_state.specs.{Shows.{MayTake, AreKnown, AreShown, HasSelection, Shows, TellsThese, ended_if, export_shown_if, known_if, phase_shown, place_of, shown_if}, Filters.{Asks, filter_of_head, is_settled_by}, Places.{chunk_of, chunk_with, place_at, span_of}, Indexes.{Covers, HasMore, IsApart, IsBare, IsHeldFrom, IsIndex, size_from}}
pub use Rattle.nbd_state.specs.{Showing.{shown_in, with_counts, AreCounted, IsShown, exporting}, Transcripts.report_of_request, declared.{asked.{Asked.Asked, Exchange.Exchange, Outcome.TheVariants.{Failure, Success}}, asking.{Asking.Asking, Telling.Telling}, recording.Counts.Counts, selection.Selection.Selection, span.Span.Span, state.{Chosen.Chosen, Export.Export, State.State}}}
pub use Rattle.nbd_state.specs.internal.{AddsUnanswered, IsTransmitting, TellsOne, is_allocation_told, HasTaken, IsNotedWith, carried, operation_of_head}
pub use Rattle.nbd_wire.specs.{codec.Contents.extent_of, declared.{heads.transmission.RequestHead.RequestHead, message.Message.{Message, TheVariants.{Answer, Choice, Chunk, ClientFlags, Exported, ExtendedChunk, ExtendedRequest, Greeting, Request, Simple}}, payloads.Piece.{Piece, TheVariants.Bytes}, sizes.Sizing.Sizing}}
pub use Rattle.nbd_wire.specs.protocol.{Contexts.{Context, Extent, Filter, Status, are_once, has_id, is_among}, Flags.has, Operations.{Exporting, Operation, is_error_chunk, is_finished, is_known, pieces}, Options.{agrees, choice_phase, is_proper_option, reply_phase, selection_after, selection_at, takes_contexts}, Payloads.{extents_of, ids_of}, Pieces.{byte_at, is_in, piece_offset, piece_size, simple_piece}, Reports.{Report, asked_at}, Rules.{cookie_of, core_with_reply, core_with_request, grants_structured, is_reply_to, is_this, noted, reply_to, shown_with}, Sizes.{sizes_for, sizes_kept, sizing_after, sizing_at}, States.{Answering, Core, Phase, Shown, Transmission, export_in, has_contexts, in_force, is_awaiting, operation, target_from, with_reply, with_reply_at}, Statuses.{are_settled, is_allocation, is_settled, status_in, tells, zeroes, zeroes_in, zeroes_told}, Transmission.{is_apart, is_apart_from, status_kind}}
unfoldable pub use Rattle.nbd_wire.specs.protocol.{Operations.{ends_reply, is_failing, is_proper}, Options.next_phase, Payloads.content_of, Pieces.piece_of, Rules.{MayComplete, complete}, States.target}
pub use Rattle.std.proofs.Common.{Bool, IfOk, IsSome, IsTrue, List, MatchBool, None, OnOk, Option, Result, Some, SomeIff, [], ap, append-nil, append_assoc, arith, drop, eq-eqb, eqb-true, false, if◌then◌else◌, inl, inr, is_lt, is_some, length, length-append, map, min, nat_le, nat_lt, ne_eqb, not, refl, rules, slice_get, slice_index_or, slice_set, subst, suc, sym, take, tests, true, zero, ℕ, ◌&&◌, ◌++◌, ◌+◌, ◌-◌, ◌<◌, ◌==◌, ◌^◌, ◌||◌, ◌∙◌, ◌∷◌, ◌≡◌, ◌≤◌}
pub use Rattle.std.proofs.Math.Bool.{and-false, and-true}
pub use Rattle.std.proofs.lemmas.{Bool.{and_parts, cases_order, eqb-false, le-leb, leb-true, lt-ltb, ltb-false, ltb-true, not-true, Decides.nat_tests}, Cmp.nat_cmp_total, Grind.common_steps, List.length-map, Map.Views.All-set_contains, Option.{none-some, slice_get_read, slice_get_within}}
pub use Rattle.std.specs.{BTreeMap.{BTreeMap, btree_map_len, is_at}, BTreeSet.{BTreeSet, btree_set_len, contains}, List.{list_all, list_any}, Map.lookup, Ordering.nat_cmp, Prelude.{flat_map, option_to_list, option_and_then}}
