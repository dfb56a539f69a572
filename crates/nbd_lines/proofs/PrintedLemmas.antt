-- What is printed, part by part.
use Rattle.nbd_lines.proofs.Common.{arith, ◌≡◌, ℕ, ◌+◌, ◌<◌, ◌≤◌, List, [], ◌∷◌, ◌++◌, length, take, drop, get_or, refl, sym, ap, ◌∙◌, append_assoc, append-nil, drop-cons, add-one, drop_all, Field, encode_lower, Message, end_text, message_line, payload_words, number_text, numbers_text, payload_of, fields, has_payload, line_form, numbers, words, AddsPrefix}

pub adds_more : (old mid new more : List ℕ) → AddsPrefix old mid → new ≡ mid ++ more → AddsPrefix old new
adds_more old mid new more h e = record { prefix = h.prefix ++ more; whole = e ∙ ap (λ l. l ++ more) h.whole ∙ append_assoc old h.prefix more }

-- so many fields stand printed, and what is left makes them all
pub record Printing (fs : List Field) (ns : List ℕ) (k : ℕ) (old out : List ℕ) : Type 0 where
  pub rest : out ++ numbers_text (drop k fs) (drop k ns) ≡ old ++ numbers_text fs ns
  pub added : AddsPrefix old out

pub none_printed : (fs : List Field) (ns : List ℕ) (old : List ℕ) → Printing fs ns 0 old old
none_printed fs ns old = grind (arith, append-nil)

pub one_printed : (fs : List Field) (ns : List ℕ) (k : ℕ) (old out new : List ℕ) (f : Field) (n : ℕ) → k < length fs → k < length ns
    → Printing fs ns k old out → new ≡ out ++ number_text (get_or fs k f) (get_or ns k n) → Printing fs ns (k + 1) old new
one_printed fs ns k old out new f n hf hn past e = record {
  rest =
      let next : numbers_text (drop k fs) (drop k ns) ≡ number_text (get_or fs k f) (get_or ns k n) ++ numbers_text (drop (k + 1) fs) (drop (k + 1) ns) =
      rw (drop-cons fs k f, drop-cons ns k n, add-one) refl in
      ap (λ l. l ++ numbers_text (drop (k + 1) fs) (drop (k + 1) ns)) e
      ∙ append_assoc out (number_text (get_or fs k f) (get_or ns k n)) (numbers_text (drop (k + 1) fs) (drop (k + 1) ns))
      ∙ ap (λ l. out ++ l) (sym next) ∙ past.rest;
  added = adds_more old out new (number_text (get_or fs k f) (get_or ns k n)) past.added e;
}

pub all_printed : (fs : List Field) (ns : List ℕ) (k : ℕ) (old out : List ℕ) → length fs ≤ k → Printing fs ns k old out → out ≡ old ++ numbers_text fs ns
all_printed fs ns k old out h past = grind (arith, drop_all, append-nil)

pub adds_again : (old mid new : List ℕ) → AddsPrefix old mid → AddsPrefix mid new → AddsPrefix old new
adds_again old mid new h more = adds_more old mid new more.prefix h more.whole

numbers_text-take : (fs : List Field) (ns : List ℕ) → numbers_text fs (take (length fs) ns) ≡ numbers_text fs ns
numbers_text-take [] ns = refl
numbers_text-take (f ∷ fs) [] = refl
numbers_text-take (f ∷ fs) (n ∷ ns) = ap (λ l. number_text f n ++ l) (numbers_text-take fs ns)

-- the parts of a line, one after the other
pub line_printed : (m : Message) (ns old first second third : List ℕ) → take (length (fields (line_form m))) ns ≡ numbers m
    → first ≡ old ++ words (line_form m) → second ≡ first ++ numbers_text (fields (line_form m)) ns
    → third ≡ second ++ end_text (has_payload (line_form m)) (payload_of m) → third ≡ old ++ message_line m
line_printed m ns old first second third same a b c = grind (arith, numbers_text-take, append_assoc)

-- the words before a payload, and its digits
pub end_printed : (old first second digits bytes : List ℕ) → first ≡ old ++ payload_words → digits ≡ encode_lower bytes → second ≡ first ++ digits → second ≡ old ++ (payload_words ++ encode_lower bytes)
end_printed old first second digits bytes a d b = b ∙ ap (λ l. l ++ digits) a ∙ append_assoc old payload_words digits ∙ ap (λ l. old ++ (payload_words ++ l)) d
