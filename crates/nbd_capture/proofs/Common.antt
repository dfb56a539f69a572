-- The names that the proofs of this crate cite from elsewhere, passed on from one place. Declares nothing.
pub use Rattle.hex.proofs.{HexLemmas.{IsDigits-lower_digits, IsDigits-upper_digits, decode_of-even, decode_of-ok, decode_sized-twice}, Pairs.{cons_byte, decode_pairs-ok_pair}}
pub use Rattle.hex.specs.{Hex.{decode_of, decode_sized, digit_or_error, encode_lower, hex_digit_value, lower_digits, pair_value, upper_digits, value_at, ◌>>=◌}, declared.error.FromHexError.FromHexError}
unfoldable pub use Rattle.hex.specs.Hex.{decode_pairs, encode_with}
pub use Rattle.nbd_capture.specs.Capture.{AreDigits, Chunk, IsCaptureLine, IsCaptureText, IsDigit, IsFirstBadCaptureLine, hash, letter, space, AreDigits.{byte, none}, IsCaptureLine.{blank, chunk, comment}}
pub use Rattle.nbd_capture.specs.Contents.{AreContentsLines, IsContentsLine, IsContentsText, IsFirstBadContentsLine, IsValue, Piece, Told, told, word, IsContentsFault, IsOrderTextFault, AreContentsLines.{line as next-line, none as no-line}, IsContentsLine.{blank as blank-line, comment as comment-line, piece as piece-line, size as size-line}, Piece.{known, unknown, zeroes}, Told.{nothing, part}}
pub use Rattle.nbd_capture.specs.{Lines.{IsFirstBadLine, IsText, IsUnbroken, line_feed, IsFirstBadLine.{formless, later, unended}, IsText.{empty, line}}, Order.{BeginsPlainly, IsNumber, IsOrderLine, IsOrderText, IsPart, IsOrderLine.{atomically, of_part}}, Reading.{IsReaderFault, NamesFirstBadLine, Reading, Reads, ReadsToEnd, Refuses, StopsWithin, Takes, lines_ended}, Writing.AppendsPrefix}
pub use Rattle.nbd_capture.specs.declared.{capture.CaptureFault.{CaptureFault, TheVariants.{Line, Memory, Read}}, form.Form.{Form, TheVariants.{Bad, Comment, Digits, Empty, Letter}}, order.OrderTextFault.OrderTextFault, reader.State.TheVariants.Open, source.{Ending.TheVariants.{LineFeed, Text}, Piece.TheVariants.Last}}
pub use Rattle.nbd_capture.specs.internal.{Adds, IsKept, IsOf, IsPartOf, Kept, Spell, kept, IsChunkFault, Pieces.{IsLine, IsPiece, reading}, Telling.{IsLaid, Seen, up_to, word_text}}
pub use Rattle.nbd_export.specs.Held.{Held, held}
unfoldable pub use Rattle.nbd_export.specs.Held.{held_from}
pub use Rattle.nbd_wire.specs.{declared.{entry.{Entry.Entry, Part.Part}, message.Side.{Side, TheVariants.{Client, Server}}}, protocol.Entries.whole}
pub use Rattle.std.proofs.BufReadLemmas.{Consumes_shown}
pub use Rattle.std.proofs.Common.{Bool, Err, IfErr, IfOk, IfSome, IsTrue, List, MatchBool, MatchOption, None, Option, codes, Ok, Result, Some, [], ap, append-nil, append_assoc, arith, drop, eq-eqb, false, get_or, inl, inr, is_ok, length, length-take-le, nat_eq, nat_lt, not, refl, rules, slice_get, slice_index, subst, suc, sym, take, take-take, true, true≢false, vec_capacity, zero, ℕ, ◌%◌, ◌&&◌, ◌*◌, ◌++◌, ◌+◌, ◌-◌, ◌/◌, ◌<◌, ◌==◌, ◌^◌, ◌∙◌, ◌∷◌, ◌≡◌, ◌≢◌, ◌≤◌, ◌⊎◌}
pub use Rattle.std.proofs.{KnownBytes.{Appends-nil, Appends-trans, Consumes-kept, Consumes-nil, Consumes-trans, Keeps-refl}, Math.Seq.{take-append-add, take-append_seam}}
pub use Rattle.std.proofs.lemmas.{Bool.{and_parts, cases_eq, cases_lt, eqb-true, ne_eqb, Decides.nat_tests}, Int.Digits.{digits_more, digits_value_more}, List.{length-append, take-append-drop, take_all, take_rest, Sums.sum_by-append}, Result.err_from_is_err_and, Str.{digit_value_digit, Parse.{digit_at, digit_from_value, digits_value-take-le}}}
pub use Rattle.std.specs.{Char.{IsNotAsciiDigit, digit_value}, Io.{StartsWith, BufRead.{DropsConsumable, FillKeeps}, KnownBytes.{Appends, Consumes, IsAtEnd, Keeps}}, Prelude.{IsErr, MatchResult, OnSome, Option, if◌then◌else◌}, Str.Parse.{AllDigits, IsNumeral, digits_value}}
pub use borrow.Author.Tests.{tests}
