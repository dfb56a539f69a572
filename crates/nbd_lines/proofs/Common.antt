-- The names that the proofs of this crate cite from elsewhere, passed on from one place. Declares nothing.
pub use Rattle.hex.proofs.HexLemmas.{decode_of-encode_lower}
pub use Rattle.hex.specs.{Hex.{IsBytes, decode_of, encode_lower}, declared.error.FromHexError.FromHexError}
unfoldable pub use Rattle.hex.specs.Hex.{encode_with}
pub use Rattle.nbd_capture.proofs.{DigitLemmas.{decodes, lower_below, spelled}, ProgressLemmas.{Progress, advance, cut_off, done, stopped}, ReadingLemmas.{IsFunctional, no_reading, one_first_bad, one_reading}, TotalTextLemmas.{Decided, told}, WriterLemmas.{prefix_then, then_prefix}}
pub use Rattle.nbd_capture.specs.Capture.{AreDigits, IsCaptureText, chunk_line, hash, letter, space, IsCaptureLine.chunk}
pub use Rattle.nbd_capture.specs.Contents.{AreContentsLines, IsContentsLine, IsContentsText, IsValue, Piece, Told, are_zeroes, before_pieces, join, joined, piece_line, piece_lines, printed, shown, size_line, value_text, word, AreContentsLines.{line as next-line, none as no-line}, IsContentsLine.{blank as blank-line, comment as comment-line, piece as piece-line, size as size-line}, Piece.{known, unknown, zeroes}, Told.part}
pub use Rattle.nbd_capture.specs.{Lines.{IsUnbroken, line_feed, IsText.{empty, line}}, Order.{BeginsPlainly, EntryFits, IsNumber, IsOrderLine, IsOrderText, PartFits, entry_text, part_text, IsOrderLine.{atomically, of_part}}, Writing.AppendsPrefix}
unfoldable pub use Rattle.nbd_capture.specs.Contents.{cut}
pub use Rattle.nbd_export.specs.Held.{AreHeld, Held, held}
unfoldable pub use Rattle.nbd_export.specs.Held.{held_from}
pub use Rattle.nbd_lines.specs.{Faults.IsScriptFault, Line.{AreWithin, IsEnd, IsMessageLine, end_text, equals, message_line, number_text, numbers_text, payload_words, IsEnd.{nothing, payload}}, Script.{IsFirstBadScriptLine, IsScript, IsScriptLine, chunk_lines, made_chunk, made_line, message_lines, shown_line, IsScriptLine.{blank, comment, message, ok}}}
pub use Rattle.nbd_lines.specs.{Table.{field_name, fields, has_payload, line_form, numbers, payload_of, words}, declared.{forms.{Field.Field, Form.{Form, TheVariants.{Answer, Choice, Chunk, ClientFlags, Exported, ExtendedChunk, ExtendedRequest, Greeting, Request, Simple}}, Name.Name}, script.ScriptFault.{ScriptFault, TheVariants.{Line, Memory}}}}
pub use Rattle.nbd_lines.specs.internal.{AddsPrefix, BeginsNumber, BeginsNumbers, EndsWord, IsSpaceless, ReadsNumber, ReadsNumbers, IsLineFault, said_by}
pub use Rattle.nbd_wire.proofs.NumberLemmas.{slice_index-byte}
unfoldable pub use Rattle.nbd_wire.specs.{codec.Fits.FitsItsHead, protocol.{Encoding.{enc, head, tail}, Sendable.IsSendable}}
pub use Rattle.nbd_wire.specs.{declared.{commands.TheConstants.WRITE, entry.{Entry.Entry, Part.Part}, magics.TheConstants.{ANSWER_MAGIC, CHUNK_MAGIC, EXTENDED_CHUNK_MAGIC, EXTENDED_REQUEST_MAGIC, GREETING_MAGIC, OPTION_MAGIC, REQUEST_MAGIC, SIMPLE_MAGIC}, message.{Message.Message, Side.{Side, TheVariants.{Client, Server}}}}, protocol.{Encoding.AreBytes, Sendable.carries_payload}}
pub use Rattle.std.proofs.Common.{Bool, Err, IfErr, IfSome, IsTrue, List, MatchOption, None, Ok, Option, Result, Some, [], add-one, ap, append-nil, append_assoc, arith, drop, drop-cons, false, get_or, inl, inr, length, length-take-le, map, nat_eq, not, refl, replicate, rules, slice_index, slice_index_or, subst, suc, sym, take, true, zero, ℕ, ◌%◌, ◌&&◌, ◌++◌, ◌+◌, ◌-◌, ◌/◌, ◌<◌, ◌^◌, ◌∙◌, ◌∷◌, ◌≡◌, ◌≢◌, ◌≤◌, ◌⊎◌}
pub use Rattle.std.proofs.{KnownBytes.{Appends-nil, Appends-trans}, Math.Seq.take-append_seam}
pub use Rattle.std.proofs.lemmas.{Bool.{and_parts, cases_eq, cases_lt, eq-eqb, eqb-false, eqb-true, ne_eqb, not-true}, Fmt.{IsAscii-decimal, decimal-digits_value, decimal_by_steps, decimal_digit, decimal_injective, decimal_is_IsNumeral, first_decimal}, Grind.flat_map-append, List.{append_cancel_left, drop_all, get_or_append_left, length-append, take-append-drop, take_all, take_more, take_more_set}, Result.{err_from_is_err_and, on_err_weaker}, Str.{IsUtf8-from_ascii, Parse.{IsNumeralModel, digit_at, digit_from_value, numerals_by_value, tells_digits, without_leading_plus_none}}}
pub use Rattle.std.specs.{Borrow.Bor, Char.IsAsciiDigit, Cmp.Lexicographic.pointwise, Fmt.decimal, Int.{byte_at, bytes_high_first}, Io.KnownBytes.Appends, List.AllByRecursion, Prelude.{IsErr, MatchResult, codes, flat_map, if◌then◌else◌, is_ok, slice_set, ◌==◌}, Result.{OkIff, result_ok}, Str.{IsUtf8, IsValidUpTo, valid_up_to, Parse.{AllDigits, IsNumeral, ParsesUnsigned, digits_value}}}
pub use borrow.Author.Tests.{tests}
