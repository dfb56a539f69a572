-- The numbers of a line: how a text begins with them.
use Rattle.nbd_lines.proofs.Common.{◌≡◌, ℕ, ◌+◌, ◌^◌, ◌<◌, ◌≤◌, List, [], ◌∷◌, ◌++◌, refl, sym, ap, ◌∙◌, append_assoc, append-nil, arith, add-one, drop, drop-cons, get_or, length, subst, take, slice_set, AllByRecursion, decimal, decimal_injective, append_cancel_left, drop_all, take_more_set, space, Field, AreWithin, equals, number_text, numbers_text, BeginsNumber, BeginsNumbers, EndsWord, IsSpaceless, ReadsNumber, ReadsNumbers, field_name}
use Rattle.nbd_lines.proofs.{DecimalLemmas.decimal_is_spaceless, WordLemmas.same_word}

-- the parts of a text that begins with a field
pub number_split : (f : Field) (n : ℕ) (behind : List ℕ) → number_text f n ++ behind ≡ space ∷ (field_name f.name ++ equals ∷ (decimal n ++ behind))
number_split f n behind = ap (λ l. space ∷ l) (append_assoc (field_name f.name) (equals ∷ decimal n) behind)

-- the first word after a field's name is the number's digits
pub number_word : (f : Field) (n : ℕ) (text behind word rest : List ℕ) → f.most < 2 ^ 64 → BeginsNumber f n text behind
    → text ≡ space ∷ (field_name f.name ++ equals ∷ (word ++ rest)) → IsSpaceless word → EndsWord rest → (word ≡ decimal n) × (rest ≡ behind)
number_word f n text behind word rest most b e s w = grind (arith, number_split, append_cancel_left, same_word, decimal_is_spaceless)

-- a text begins with one number in a field
pub one_number : (f : Field) (m n : ℕ) (text x y : List ℕ) → f.most < 2 ^ 64 → BeginsNumber f m text x → BeginsNumber f n text y → (m ≡ n) × (x ≡ y)
one_number f m n text x y most a b =
    let fits : m < 2 ^ 64 = let h = a.within in omega arith in
    let small : n < 2 ^ 64 = let h = b.within in omega arith in
    let same = number_word f n text y (decimal m) x most b (a.whole ∙ number_split f m x) (decimal_is_spaceless m fits) a.ends in
    (decimal_injective m n fits small same.0, same.1)

-- the parts of a field, once they were read
pub number_read : (f : Field) (n : ℕ) (text word rest : List ℕ) → f.most < 2 ^ 64 → n ≤ f.most
    → text ≡ space ∷ (field_name f.name ++ equals ∷ (word ++ rest)) → word ≡ decimal n → EndsWord rest → ReadsNumber f n text rest
number_read f n text word rest most within e digits ends =
    let begins : BeginsNumber f n text rest = record {
      within = within;
      whole = e ∙ ap (λ l. space ∷ (field_name f.name ++ equals ∷ (l ++ rest))) digits ∙ sym (number_split f n rest);
      ends = ends;
    } in
    record { begins = begins; only = λ other behind b. one_number f other n text behind rest most b begins }

-- what follows the numbers of a line ends the word before it
numbers_end : (fs : List Field) (ns behind : List ℕ) → EndsWord behind → EndsWord (numbers_text fs ns ++ behind)
numbers_end [] ns behind e = e
numbers_end (f ∷ fs) [] behind e = e
numbers_end (f ∷ fs) (n ∷ ns) behind e = refl

-- the first number, and then the others
pub record Split (f : Field) (fs : List Field) (ns text behind : List ℕ) : Type 0 where
  pub first : ℕ
  pub others : List ℕ
  pub all : ns ≡ first ∷ others
  pub begins : BeginsNumber f first text (numbers_text fs others ++ behind)
  pub goes_on : AreWithin fs others

pub split_first : (f : Field) (fs : List Field) (ns text behind : List ℕ) → EndsWord behind → BeginsNumbers (f ∷ fs) ns text behind → Split f fs ns text behind
split_first f fs ns text behind e b = grind (arith, append_assoc, numbers_end)

pub put_first : (f : Field) (fs : List Field) (n : ℕ) (ns text mid behind : List ℕ) → BeginsNumber f n text mid → BeginsNumbers fs ns mid behind → BeginsNumbers (f ∷ fs) (n ∷ ns) text behind
put_first f fs n ns text mid behind a b = grind (arith, append_assoc)

-- what the rest of a text is, after some numbers of it were read
pub record Past (fs : List Field) (text : List ℕ) (k : ℕ) (values rest : List ℕ) : Type 0 where
  pub onwards : (ns behind : List ℕ) → BeginsNumbers (drop k fs) ns rest behind → BeginsNumbers fs (take k values ++ ns) text behind
  pub only : (ns behind : List ℕ) → EndsWord behind → BeginsNumbers fs ns text behind → (more : List ℕ) × (ns ≡ take k values ++ more) × BeginsNumbers (drop k fs) more rest behind

pub none_past : (fs : List Field) (text values : List ℕ) → Past fs text 0 values text
none_past fs text values = record { onwards = λ ns behind b. b; only = λ ns behind e b. (ns, refl, b) }

pub one_past : (fs : List Field) (text : List ℕ) (k : ℕ) (values rest : List ℕ) (f : Field) (n : ℕ) (behind : List ℕ) → k < length fs → k < length values
    → Past fs text k values rest → ReadsNumber (get_or fs k f) n rest behind → Past fs text (k + 1) (slice_set values k n) behind
one_past fs text k values rest f n behind hf hv past read =
    let g : Field = get_or fs k f in
    let left : drop k fs ≡ g ∷ drop (k + 1) fs = rw add-one (drop-cons fs k f hf) in
    let taken : (more : List ℕ) → take (k + 1) (slice_set values k n) ++ more ≡ take k values ++ n ∷ more =
    λ more. ap (λ l. l ++ more) (take_more_set values k n hv) ∙ append_assoc (take k values) (n ∷ []) more in
    record {
      onwards = λ ns end b.
          let next : BeginsNumbers (drop k fs) (n ∷ ns) rest end = rw left (put_first g (drop (k + 1) fs) n ns rest behind end read.begins b) in
          rw (taken ns) (past.onwards (n ∷ ns) end next);
      only = λ ns end e b.
          let before = past.only ns end e b in
          let parts = split_first g (drop (k + 1) fs) before.0 rest end e (rw left at before.2) in
          let same = read.only parts.first (numbers_text (drop (k + 1) fs) parts.others ++ end) parts.begins in
          let all : ns ≡ take k values ++ n ∷ parts.others = before.1 ∙ ap (λ l. take k values ++ l) (parts.all ∙ ap (λ m. m ∷ parts.others) same.0) in
          (parts.others, all ∙ sym (taken parts.others), record { within = parts.goes_on; whole = sym same.1 });
    }

pub no_more : (more rest behind : List ℕ) → BeginsNumbers [] more rest behind → (more ≡ []) × (rest ≡ behind)
no_more more rest behind b = grind arith

pub all_past : (fs : List Field) (text : List ℕ) (k : ℕ) (values rest : List ℕ) → k ≡ length fs → Past fs text k values rest → ReadsNumbers fs (take (length fs) values) text rest
all_past fs text k values rest e past =
    let none : drop k fs ≡ [] = drop_all k fs (omega arith) in
    let nothing : BeginsNumbers (drop k fs) [] rest rest = rw none (record { within = tt; whole = refl }) in
    rw (← e) (record {
      begins = subst (λ l. BeginsNumbers fs l text rest) (append-nil (take k values)) (past.onwards [] rest nothing);
      only = λ others end w b.
          let before = past.only others end w b in
          let last = no_more before.0 rest end (rw none at before.2) in
          (before.1 ∙ ap (λ l. take k values ++ l) last.0 ∙ append-nil (take k values), sym last.1);
    })

-- a text in which the next number does not stand has not all of them
pub none_ahead : (fs : List Field) (text : List ℕ) (k : ℕ) (values rest : List ℕ) (f : Field) → k < length fs → Past fs text k values rest
    → ((n : ℕ) (behind : List ℕ) → BeginsNumber (get_or fs k f) n rest behind → ⊥) → (ns behind : List ℕ) → EndsWord behind → BeginsNumbers fs ns text behind → ⊥
none_ahead fs text k values rest f hf past none ns behind e b =
    let left : drop k fs ≡ get_or fs k f ∷ drop (k + 1) fs = rw add-one (drop-cons fs k f hf) in
    let before = past.only ns behind e b in
    let parts = split_first (get_or fs k f) (drop (k + 1) fs) before.0 rest behind e (rw left at before.2) in
    none parts.first (numbers_text (drop (k + 1) fs) parts.others ++ behind) parts.begins

-- a text begins with one list of numbers in these fields
pub one_list : (fs : List Field) → AllByRecursion (λ (f : Field). f.most < 2 ^ 64) fs → (ms ns text x y : List ℕ) → EndsWord x → EndsWord y
    → BeginsNumbers fs ms text x → BeginsNumbers fs ns text y → (ms ≡ ns) × (x ≡ y)
one_list [] small ms ns text x y ex ey a b = grind (arith, no_more)
one_list (f ∷ fs) small ms ns text x y ex ey a b =
    let first = split_first f fs ms text x ex a in
    let second = split_first f fs ns text y ey b in
    let same = one_number f first.first second.first text _ _ small.0 first.begins second.begins in
    let left : BeginsNumbers fs first.others (numbers_text fs first.others ++ x) x = record { within = first.goes_on; whole = refl } in
    let right : BeginsNumbers fs second.others (numbers_text fs first.others ++ x) y = record { within = second.goes_on; whole = same.1 } in
    let more = one_list fs small.1 first.others second.others (numbers_text fs first.others ++ x) x y ex ey left right in
    (first.all ∙ ap (λ n. n ∷ first.others) same.0 ∙ ap (λ l. second.first ∷ l) more.0 ∙ sym second.all, more.1)
