-- What is printed of a message that can be sent is read again.
use Rattle.nbd_lines.proofs.Common.{Form, words, IsBytes, ◌≡◌, ℕ, ◌^◌, ◌<◌, Bool, true, false, List, [], ◌∷◌, ◌++◌, refl, sym, subst, arith, append_assoc, append-nil, ◌∙◌, codes, AllByRecursion, encode_lower, decode_of-encode_lower, Message, AreBytes, FitsItsHead, slice_index-byte, IsSendable, spelled, IsUnbroken, line_feed, empty, line, Field, Name, AreWithin, IsEnd, IsMessageLine, end_text, message_line, number_text, numbers_text, nothing, payload, IsScript, message_lines, shown_line, message, ok, payload_of, field_name, has_payload, line_form}
use Rattle.nbd_lines.proofs.{MessageLineLemmas.fields_small, WrittenLemmas.{unbroken_digits, unbroken_number}}
use Rattle.nbd_capture.proofs.ReadingStepLemmas.{unbroken-append}

pub sendable_bytes : (m : Message) → IsSendable m → AreBytes (payload_of m)
unfolding IsSendable
sendable_bytes m s = grind arith

printed_end : (p : Bool) (bytes : List ℕ) → AreBytes bytes → (p ≡ false → bytes ≡ []) → IsEnd p bytes (end_text p bytes)
printed_end true bytes b none = payload (encode_lower bytes) bytes (spelled (encode_lower bytes) bytes (decode_of-encode_lower bytes (slice_index-byte bytes b)))
printed_end false bytes b none = subst (λ l. IsEnd false l []) (sym (none refl)) nothing

nothing_carried : (m : Message) → has_payload (line_form m) ≡ false → payload_of m ≡ []
nothing_carried m e = grind arith

-- a printed line stands for its message
pub message_line_is_sendable : (m : Message) → IsSendable m → IsMessageLine (message_line m) m × FitsItsHead m
unfolding FitsItsHead IsSendable
message_line_is_sendable m s = grind (arith, printed_end, sendable_bytes, nothing_carried)

unbroken_name : (n : Name) → IsUnbroken (field_name n)
unbroken_name n = grind arith

unbroken_field : (f : Field) (n : ℕ) → n < 2 ^ 64 → IsUnbroken (number_text f n)
unbroken_field f n fits = grind (arith, unbroken-append, unbroken_name, unbroken_number)

unbroken_numbers : (fs : List Field) → AllByRecursion (λ (f : Field). f.most < 2 ^ 64) fs → (ns : List ℕ) → AreWithin fs ns → IsUnbroken (numbers_text fs ns)
unbroken_numbers [] small ns w = grind arith
unbroken_numbers (f ∷ fs) small [] w = absurd w
unbroken_numbers (f ∷ fs) small (n ∷ ns) w = grind (arith, unbroken-append, unbroken_field, unbroken_numbers fs small.1 ns w.1)

unbroken_words : (f : Form) → IsUnbroken (words f)
unbroken_words f = grind arith

unbroken_end : (p : Bool) (bytes : List ℕ) → IsBytes bytes → IsUnbroken (end_text p bytes)
unbroken_end p bytes b = let digits = unbroken_digits bytes b in grind (arith, digits)

unbroken_line : (m : Message) → IsSendable m → IsUnbroken (message_line m)
unfolding IsSendable
unbroken_line m s = grind (arith, unbroken_end, slice_index-byte, sendable_bytes, unbroken-append, unbroken_words, unbroken_numbers, fields_small)

-- printed lines are a script, also before lines that stand for no message
pub shown_then : (all : List Message) (tail : List ℕ) → AllByRecursion IsSendable all → IsScript tail [] → IsScript (message_lines all ++ tail) all
shown_then [] tail s silent = silent
shown_then (m ∷ ms) tail s silent =
    let form = message_line_is_sendable m s.0 in
    let more : List ℕ = message_lines ms ++ tail in
    let whole = line (message_line m) (m ∷ []) more ms (unbroken_line m s.0) (message (message_line m) m form.0 form.1) (shown_then ms tail s.1 silent) in
    let joined : (shown_line m ++ message_lines ms) ++ tail ≡ message_line m ++ line_feed ∷ more =
    append_assoc (shown_line m) (message_lines ms) tail ∙ append_assoc (message_line m) (line_feed ∷ []) more in
    subst (λ t. IsScript t (m ∷ ms)) (sym joined) whole

pub message_lines_are_script : (all : List Message) → AllByRecursion IsSendable all → IsScript (message_lines all) all
message_lines_are_script all s = subst (λ t. IsScript t all) (append-nil (message_lines all)) (shown_then all [] s empty)

pub ok_alone : IsScript (codes "ok\n") []
ok_alone = line (codes "ok") [] [] [] (omega arith, (omega arith, tt)) ok empty
