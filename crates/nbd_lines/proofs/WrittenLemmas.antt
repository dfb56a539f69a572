-- What is written in the forms of the two grammars is read again.
use Rattle.nbd_lines.proofs.Common.{ℕ, suc, ◌/◌, ◌%◌, ◌^◌, ◌<◌, List, [], ◌∷◌, ◌++◌, refl, sym, ap, subst, arith, append_assoc, append-nil, Some, None, flat_map, AllByRecursion, decimal, decimal_is_IsNumeral, IsBytes, encode_lower, encode_with, decode_of-encode_lower, Side, line_feed, IsUnbroken, empty, line, IsCaptureText, chunk_line, letter, space, chunk, Entry, Part, EntryFits, IsNumber, IsOrderLine, IsOrderText, PartFits, entry_text, part_text, atomically, of_part}
use Rattle.nbd_lines.proofs.DecimalLemmas.{plain_as_decimal}
use Rattle.nbd_capture.specs.Capture.{Chunk}
use Rattle.std.proofs.Common.{Option}
use Rattle.nbd_capture.proofs.{DigitLemmas.{lower_below, spelled}, PartingLemmas.digits_lack, ReadingStepLemmas.unbroken-append}

-- no digit is a line feed
pub unbroken_digits : (bytes : List ℕ) → IsBytes bytes → IsUnbroken (encode_lower bytes)
unfolding encode_with
unbroken_digits [] fits = tt
unbroken_digits (b ∷ bs) fits =
    let small : b < 256 = fits 0 in
    let high = lower_below (b / 16) (omega arith) in
    let low = lower_below (b % 16) (omega arith) in
    (omega (arith, high), (omega (arith, low), unbroken_digits bs (λ i. fits (suc i))))

unbroken_line : (side : Side) (bytes : List ℕ) → IsBytes bytes → IsUnbroken (letter side ∷ space ∷ encode_lower bytes)
unbroken_line side bytes fits = grind (arith, unbroken_digits)

pub written_chunks : (chunks : List Chunk) → AllByRecursion (λ c. IsBytes c.bytes) chunks → IsCaptureText (flat_map (λ c. chunk_line c.side c.bytes) chunks) chunks
written_chunks [] fits = empty
written_chunks (c ∷ cs) fits =
    let form = chunk c.side (encode_lower c.bytes) c.bytes (spelled (encode_lower c.bytes) c.bytes (decode_of-encode_lower c.bytes fits.0)) in
    let all = line (letter c.side ∷ space ∷ encode_lower c.bytes) (c ∷ []) _ cs (unbroken_line c.side c.bytes fits.0) form (written_chunks cs fits.1) in
    let joined = append_assoc (encode_lower c.bytes) (line_feed ∷ []) (flat_map (λ (d : Chunk). chunk_line d.side d.bytes) cs) in
    subst (λ t. IsCaptureText t (c ∷ cs)) (ap (λ t. letter c.side ∷ space ∷ t) (sym joined)) all

-- a printed number is read as the number
pub printed_number : (n : ℕ) → n < 2 ^ 64 → IsNumber (decimal n) n
printed_number n fits =
    let numeral = decimal_is_IsNumeral n fits in
    (numeral.0, plain_as_decimal (decimal n) n fits refl, rw numeral.1 fits, sym numeral.1)

pub unbroken_number : (n : ℕ) → n < 2 ^ 64 → IsUnbroken (decimal n)
unbroken_number n fits = digits_lack line_feed (decimal n) (omega arith) (printed_number n fits).0.1

unbroken_part : (p : Option Part) → PartFits p → IsUnbroken (part_text p)
unbroken_part p fits = grind (arith, unbroken-append, unbroken_number)

printed_line : (k : ℕ) (p : Option Part) → k < 2 ^ 64 → PartFits p → IsOrderLine (decimal k ++ part_text p) (record { request = k; part = p } ∷ [])
printed_line k None l fits = subst (λ t. IsOrderLine t (record { request = k; part = None } ∷ [])) (sym (append-nil (decimal k))) (atomically (decimal k) k (printed_number k l))
printed_line k (Some p) l fits =
    of_part (decimal k) (decimal p.offset ++ space ∷ decimal p.length) k p (printed_number k l)
    (decimal p.offset, decimal p.length, refl, printed_number p.offset fits.0, printed_number p.length fits.1)

pub printed_entries : (entries : List Entry) → AllByRecursion EntryFits entries → IsOrderText (flat_map (λ e. entry_text e ++ line_feed ∷ []) entries) entries
printed_entries [] fits = empty
printed_entries (e ∷ es) fits =
    let all = line (entry_text e) (e ∷ []) _ es (unbroken-append (decimal e.request) (part_text e.part) (unbroken_number e.request fits.0.0) (unbroken_part e.part fits.0.1))
    (printed_line e.request e.part fits.0.0 fits.0.1) (printed_entries es fits.1) in
    let joined = append_assoc (entry_text e) (line_feed ∷ []) (flat_map (λ (d : Entry). entry_text d ++ line_feed ∷ []) es) in
    subst (λ t. IsOrderText t (e ∷ es)) (sym joined) all
