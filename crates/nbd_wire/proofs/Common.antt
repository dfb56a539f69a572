-- The names that the proofs of this crate cite from elsewhere, passed on from one place. Declares nothing.
pub use Rattle.byteorder.specs.{Endian.{big_bytes, big_from, big_number}, Numbers.{big_from-append, big_from-cons, big_from-lt, big_number-reads_back, length-bytes_high_first}}
pub use Rattle.nbd_wire.specs.codec.Contents.{piece_of, Reads, ReadsAs}
pub use Rattle.nbd_wire.specs.declared.{chunks.TheConstants.{ERROR, ERROR_OFFSET, OFFSET_DATA, OFFSET_HOLE}, commands.TheConstants.WRITE, heads.{negotiation.{AnswerHead.AnswerHead, ChoiceHead.ChoiceHead}, transmission.{ChunkHead.ChunkHead, RequestHead.RequestHead, SimpleHead.SimpleHead}}, infos.TheConstants.{BLOCK_SIZE, EXPORT}, magics.TheConstants.{ANSWER_MAGIC, CHUNK_MAGIC, EXTENDED_CHUNK_MAGIC, EXTENDED_REQUEST_MAGIC, GREETING_MAGIC, OPTION_MAGIC, REQUEST_MAGIC, SIMPLE_MAGIC}, message.Message.{Message, TheVariants.{Answer, Choice, Chunk, ClientFlags, Exported, ExtendedChunk, ExtendedRequest, Greeting, Request, Simple}}, payloads.{Failure.Failure, Info.{Info, TheVariants.{BlockSize, Export, Other}}, Piece.{Piece, TheVariants.{Bytes, Hole}}}}
pub use Rattle.nbd_wire.specs.protocol.{Contexts.{Context, Extent, Filter, Status}, Encoding.AreBytes, Forms.{GoesOn, with_extents, with_ids, with_lengths}, Payloads.{are_queries, behind_name, extents_in, extents_of, has_empty, ids_in, ids_of, name_in, number_at}, Sizes.has_number}
unfoldable pub use Rattle.nbd_wire.specs.codec.{Fits.FitsItsHead, Heads.{IsAnswerHead, IsChoiceHead, IsChunkHead, IsClientFlagsHead, IsExportHead, IsExtendedChunkHead, IsExtendedRequestHead, IsGreetingHead, IsRequestHead, IsSimpleHead, IsHeadOf, head_length}}
unfoldable pub use Rattle.nbd_wire.specs.protocol.{Encoding.{enc, head, tail}, Flags.{has, has_only}, Forms.{HasContentForm, HasContextForm, HasFailureForm, HasFilterForm, HasGoForm, HasInfoForm, HasListedForm, HasQueriesForm, HasStatusForm}, Payloads.{content_of, context_of, failure_of, filter_of, info_of, is_go, is_listed, queries_of, status_of}, Sendable.IsSendable}
pub use Rattle.std.proofs.Common.{Bool, Bor, IsTrue, List, None, Option, Some, [], ap, append-nil, append_assoc, arith, drop, false, get_or, if◌then◌else◌, length, length-append, length-drop, nat_le, not, refl, slice_index, subst, suc, sym, take, true, zero, ℕ, ◌%◌, ◌&&◌, ◌*◌, ◌++◌, ◌+◌, ◌-◌, ◌/◌, ◌<◌, ◌==◌, ◌^◌, ◌||◌, ◌∙◌, ◌∷◌, ◌≡◌, ◌≢◌, ◌≤◌}
pub use Rattle.std.proofs.Math.{Nat.{div-one, mod-eq_of_lt, mul-add-div_right, mul-add-mod_self_right, mul_assoc, one-le-pow, pow-succ'}, Seq.{drop-append_seam, take-append_seam}}
pub use Rattle.std.proofs.lemmas.{Bool.{and_from, and_left, and_parts, cond-false, cond-true, cond_both, eq-eqb, eqb-false, eqb-true, false_from_ne_true, le-leb, leb-false, leb-true, lt-leb, ne_eqb, not-false, not-true}, List.{drop-append-le, drop-drop, drop_all, length-take-le, take-append-drop, take_all, Elements.{All-cons, All-head, All-nil, All-tail}}, Nat.div-mul-add, Option.{none-some, same_Some}}
pub use Rattle.std.specs.{Int.{byte_at, bytes_high_first}, List.IsSplitAt, Option.{MatchOption, option_map}, Prelude.{All, IfSome, is_some, ◌↔◌}}
