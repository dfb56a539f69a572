-- Each line of a script has a form or none.
use Rattle.nbd_lines.proofs.Common.{nat_eq, pointwise, take, take-append-drop, take-append_seam, append-nil, ◌≤◌, ◌≡◌, ◌≢◌, ℕ, ◌^◌, ◌<◌, Bool, true, false, List, [], ◌∷◌, ◌++◌, length, drop, get_or, ◌⊎◌, inl, inr, refl, sym, ap, ◌∙◌, subst, arith, append_assoc, Result, Ok, Err, ◌==◌, if◌then◌else◌, codes, AllByRecursion, decimal, digits_value, cases_eq, decimal_is_IsNumeral, decode_of, FromHexError, Message, carries_payload, FitsItsHead, WRITE, hash, space, Decided, Field, Form, AreWithin, IsEnd, IsMessageLine, equals, numbers_text, payload_words, nothing, BeginsNumber, BeginsNumbers, EndsWord, IsSpaceless, ReadsNumber, ReadsNumbers, IsScriptLine, message, blank, comment, ok, payload_of, field_name, fields, has_payload, line_form, numbers, words}
use Rattle.nbd_lines.proofs.{EndLemmas.{no_payload, not_nothing, payload_at, bad_digits_are_no_end}, MessageLineLemmas.{EndsSo, built, ends_so, fields_small, form_by, form_by-words, from_parts, misfit, no_end, no_form, no_numbers, nth}, NumberLemmas.{no_more, number_read, number_word, put_first, split_first}, ScriptLineLemmas.{formless_line, is_silent}}
use Rattle.nbd_wire.specs.declared.message.Message.TheVariants as messages
use Rattle.std.specs.Cmp.Lexicographic.{same_text}
use Rattle.std.proofs.lemmas.Bool.{cases_Bool}
use Rattle.nbd_capture.proofs.{ContentsLineLemmas.pointwise-refl, PartingLemmas.parted, TotalLemmas.{Either, at_most, both, less}}

same_list : (a b : List ℕ) → Either (a ≡ b)
same_list a b = elim (cases_Bool (pointwise nat_eq a b)) [
  | inl same ↦ inl (same_text a b (sym same))
  | inr other ↦ inr (λ e. cc (other, ap (pointwise nat_eq a) (sym e) ∙ pointwise-refl a))
]

-- what stands after a prefix of the text, if it begins so
begins_with : (prefix text : List ℕ) → Either ((rest : List ℕ) × (text ≡ prefix ++ rest))
begins_with prefix text = elim (same_list (take (length prefix) text) prefix) [
  | inl same ↦ inl (drop (length prefix) text, sym (take-append-drop (length prefix) text) ∙ ap (λ l. l ++ drop (length prefix) text) same)
  | inr other ↦ inr (λ h. other (ap (take (length prefix)) h.1 ∙ take-append_seam prefix h.0))
]

record FirstWord (text : List ℕ) : Type 0 where
  word : List ℕ
  rest : List ℕ
  spaceless : IsSpaceless word
  ends : EndsWord rest
  whole : text ≡ word ++ rest

first_word : (text : List ℕ) → FirstWord text
first_word text = elim (parted space text) [
  | inl none ↦ record { word = text; rest = []; spaceless = none; ends = tt; whole = sym (append-nil text) }
  | inr p ↦ record { word = p.0; rest = space ∷ p.1; spaceless = p.2; ends = refl; whole = p.3 }
]

abbrev FirstNumber : Field → List ℕ → Type 0
FirstNumber f text = ((n : ℕ) × (rest : List ℕ) × ReadsNumber f n text rest) ⊎ ((n : ℕ) (rest : List ℕ) → BeginsNumber f n text rest → ⊥)

-- the words before a number
abbrev prefix_of : Field → List ℕ
prefix_of f = space ∷ (field_name f.name ++ equals ∷ [])

number_in : (f : Field) (text value : List ℕ) → f.most < 2 ^ 64 → text ≡ space ∷ (field_name f.name ++ equals ∷ value) → FirstNumber f text
number_in f text value most e =
    let w = first_word value in
    let whole : text ≡ space ∷ (field_name f.name ++ equals ∷ (w.word ++ w.rest)) = e ∙ ap (λ l. space ∷ (field_name f.name ++ equals ∷ l)) w.whole in
    let n : ℕ = digits_value 10 w.word in
    elim (both (at_most n f.most) (same_list w.word (decimal n))) [
      | inl h ↦ inl (n, w.rest, number_read f n text w.word w.rest most h.0 whole h.1 w.ends)
      | inr none ↦ inr (λ m rest b.
          let within = b.within in
          let digits = (number_word f m text rest w.word w.rest most b whole w.spaceless w.ends).0 in
          let same : m ≡ n = sym (ap (digits_value 10) digits ∙ (decimal_is_IsNumeral m (omega arith)).1) in
          none (subst (λ i. i ≤ f.most) same within, digits ∙ ap decimal same))
    ]

first_number : (f : Field) (text : List ℕ) → f.most < 2 ^ 64 → FirstNumber f text
first_number f text most =
    let joined : (l : List ℕ) → prefix_of f ++ l ≡ space ∷ (field_name f.name ++ equals ∷ l) = λ l. ap (λ m. space ∷ m) (append_assoc (field_name f.name) (equals ∷ []) l) in
    elim (begins_with (prefix_of f) text) [
      | inl h ↦ number_in f text h.0 most (h.1 ∙ joined h.0)
      | inr none ↦ inr (λ n rest b. none (decimal n ++ rest, b.whole ∙ ap (λ l. space ∷ l) (append_assoc (field_name f.name) (equals ∷ decimal n) rest) ∙ sym (joined (decimal n ++ rest))))
    ]

abbrev Numbers : List Field → List ℕ → Type 0
Numbers fs text = ((ns : List ℕ) × (rest : List ℕ) × ReadsNumbers fs ns text rest) ⊎ ((ns rest : List ℕ) → EndsWord rest → BeginsNumbers fs ns text rest → ⊥)

all_numbers : (fs : List Field) → AllByRecursion (λ (f : Field). f.most < 2 ^ 64) fs → (text : List ℕ) → Numbers fs text
all_numbers [] small text = grind (arith, no_more)
all_numbers (f ∷ fs) small text =
    elim (first_number f text small.0) [
      | inl first ↦
          elim (all_numbers fs small.1 first.1) [
            | inl more ↦ inl (
              first.0 ∷ more.0,
              more.1,
              record {
                begins = put_first f fs first.0 more.0 text first.1 more.1 first.2.begins more.2.begins;
                only = λ others rest w b.
                    let parts = split_first f fs others text rest w b in
                    let same = first.2.only parts.first (numbers_text fs parts.others ++ rest) parts.begins in
                    let left = more.2.only parts.others rest w (record { within = parts.goes_on; whole = sym same.1 }) in
                    (parts.all ∙ ap (λ n. n ∷ parts.others) same.0 ∙ ap (λ l. first.0 ∷ l) left.0, left.1);
              },
            )
            | inr none ↦ inr (λ ns rest w b.
                let parts = split_first f fs ns text rest w b in
                let same = first.2.only parts.first (numbers_text fs parts.others ++ rest) parts.begins in
                none parts.others rest w (record { within = parts.goes_on; whole = sym same.1 }))
          ]
      | inr none ↦ inr (λ ns rest w b.
          let parts = split_first f fs ns text rest w b in
          none parts.first (numbers_text fs parts.others ++ rest) parts.begins)
    ]

-- as many numbers as there are fields, from the prefix of a list
listed : List Field → List ℕ → List ℕ
listed [] ns = []
listed (f ∷ fs) ns = get_or ns 0 0 ∷ listed fs (drop 1 ns)

listed-within : (fs : List Field) (ns : List ℕ) → AreWithin fs ns → listed fs ns ≡ ns
unfolding listed
listed-within [] [] w = refl
listed-within [] (n ∷ ns) w = absurd w
listed-within (f ∷ fs) [] w = absurd w
listed-within (f ∷ fs) (n ∷ ns) w = ap (λ l. n ∷ l) (listed-within fs ns w.1)

built-form : (f : Form) (ns bytes : List ℕ) → line_form (built f ns bytes) ≡ f
unfolding built
built-form f ns bytes = grind arith

built-numbers : (f : Form) (ns bytes : List ℕ) → AreWithin (fields f) ns → numbers (built f ns bytes) ≡ ns
unfolding built listed
built-numbers f ns bytes w = grind (arith, listed-within, nth)

built-payload : (f : Form) (ns bytes end : List ℕ) → IsEnd (has_payload f) bytes end → payload_of (built f ns bytes) ≡ bytes
unfolding built EndsSo
built-payload f ns bytes end e = grind (arith, ends_so)

abbrev End : Bool → List ℕ → Type 0
End p text = ((bytes : List ℕ) × IsEnd p bytes text) ⊎ ((bytes : List ℕ) → IsEnd p bytes text → ⊥)

decoded : (p : Bool) (digits end : List ℕ) → p ≡ true → end ≡ payload_words ++ digits → (r : Result (List ℕ) FromHexError) → decode_of digits ≡ r → End p end
decoded p digits end e w (Ok bytes) d = inl (bytes, payload_at p digits bytes end e w d)
decoded p digits end e w (Err fault) d = inr (bad_digits_are_no_end p digits end fault e w d)

an_end : (p : Bool) (end : List ℕ) → End p end
an_end true end =
    elim (begins_with payload_words end) [
      | inl h ↦ decoded true h.0 end refl h.1 (decode_of h.0) refl
      | inr none ↦ inr (no_payload true end refl (λ digits e. none (digits, e)))
    ]
an_end false [] = inl ([], nothing)
an_end false (b ∷ bs) = inr (not_nothing false (b ∷ bs) refl (λ e. cc e))

fits_or_not : (m : Message) → Either (FitsItsHead m)
unfolding FitsItsHead
fits_or_not (messages.Greeting flags) = inl tt
fits_or_not (messages.ClientFlags flags) = inl tt
fits_or_not (messages.Exported size flags padded) = inl tt
fits_or_not (messages.Request flags command cookie offset len bytes) = both (less (length bytes) (2 ^ 32)) (cases_eq (length bytes) (if command == WRITE then len else 0))
fits_or_not (messages.ExtendedRequest flags command cookie offset len bytes) = both (less (length bytes) (2 ^ 32)) (cases_eq (length bytes) (if carries_payload flags command then len else 0))
fits_or_not m = less (length (payload_of m)) (2 ^ 32)

abbrev Message_on : List ℕ → Type 0
Message_on line = ((m : Message) × IsMessageLine line m × FitsItsHead m) ⊎ ((m : Message) → IsMessageLine line m → FitsItsHead m → ⊥)

message_of_form : (line rest : List ℕ) (f : Form) → line ≡ words f ++ rest → Message_on line
message_of_form line rest f e =
    elim (all_numbers (fields f) (fields_small f) rest) [
      | inl read ↦
          elim (an_end (has_payload f) read.1) [
            | inl last ↦
                let m : Message = built f read.0 last.0 in
                let is_line : IsMessageLine line m = from_parts line rest read.1 f read.0 last.0 m e read.2 last.1 (built-form f read.0 last.0) (built-numbers f read.0 last.0 read.2.begins.within) (built-payload f read.0 last.0 read.1 last.1) in
                elim (fits_or_not m) [
                  | inl fits ↦ inl (m, is_line, fits)
                  | inr unfit ↦ inr (misfit line m is_line unfit)
                ]
            | inr none ↦ inr (λ m h f'. no_end line rest read.1 f read.0 e read.2 none m h)
          ]
      | inr none ↦ inr (λ m h f'. no_numbers line rest f e none m h)
    ]

message_or_none : (line : List ℕ) → Message_on line
message_or_none line =
    let f : Form = form_by line in
    elim (begins_with (words f) line) [
      | inl h ↦ message_of_form line h.0 f h.1
      | inr none ↦ inr (λ m h fits. no_form line (λ g rest e.
          let same : f ≡ g = ap form_by e ∙ form_by-words g rest in
          none (rest, subst (λ k. line ≡ words k ++ rest) (sym same) e)) m h)
    ]

loud : (b : ℕ) (bs : List ℕ) → b ≢ hash → (b ∷ bs ≡ codes "ok" → ⊥) → IsScriptLine (b ∷ bs) [] → ⊥
loud b bs other unlike f = grind (arith, is_silent)

-- a line of a script has a form or none
pub decide_line : (line : List ℕ) → Decided IsScriptLine line
decide_line [] = inl ([], blank)
decide_line (b ∷ bs) =
    elim (cases_eq b hash) [
      | inl same ↦ inl ([], subst (λ x. IsScriptLine (x ∷ bs) []) (sym same) (comment bs))
      | inr other ↦
          elim (same_list (b ∷ bs) (codes "ok")) [
            | inl o ↦ inl ([], subst (λ l. IsScriptLine l []) (sym o) ok)
            | inr unlike ↦
                elim (message_or_none (b ∷ bs)) [
                  | inl h ↦ inl (h.0 ∷ [], message (b ∷ bs) h.0 h.1 h.2)
                  | inr none ↦ inr (formless_line (b ∷ bs) (loud b bs other unlike) none)
                ]
          ]
    ]
