-- Contents texts: one reading at most, none where a line is bad, and how far a text was read.
use Rattle.nbd_capture.proofs.Common.{◌≡◌, ℕ, ◌+◌, ◌≤◌, List, [], ◌∷◌, ◌++◌, ◌⊎◌, inl, inr, length, refl, sym, ap, ◌∙◌, subst, arith, append_assoc, append-nil, length-append, true, false, eqb-true, ◌==◌, IsUnbroken, line_feed, lines_ended, AreContentsLines, Held, IsContentsLine, IsContentsText, IsFirstBadContentsLine, IsContentsFault, Told, next-line, no-line, nothing, part, Seen, up_to}
use Rattle.nbd_capture.proofs.{ReadingLemmas.{broken, first_lines, not_empty}, ReadingStepLemmas.{ended-append, none_ended}, ContentsLineLemmas.one_line}
use Rattle.nbd_capture.specs.declared.contents.ContentsFault.{ContentsFault}
use Rattle.nbd_capture.specs.declared.contents.ContentsFault.TheVariants as contents_faults
use Rattle.nbd_export.proofs.HeldLemmas.{length-held_from}
use Rattle.nbd_export.specs.{Extents.size_of, declared.extents.Extents.Extents}

-- the first of some lines, and the others
pub record Next (before : Told) (text : List ℕ) (after : Told) : Type 0 where
  pub bytes : List ℕ
  pub with_it : Told
  pub rest : List ℕ
  pub unbroken : IsUnbroken bytes
  pub whole : text ≡ bytes ++ line_feed ∷ rest
  pub first : IsContentsLine before bytes with_it
  pub others : AreContentsLines with_it rest after

pub parts : (before : Told) (text : List ℕ) (after : Told) → AreContentsLines before text after → ((text ≡ []) × (after ≡ before)) ⊎ Next before text after
parts before text after h = grind arith

-- a line more
pub one_more : (before : Told) (text : List ℕ) (mid : Told) (bytes : List ℕ) (after : Told)
    → AreContentsLines before text mid → IsUnbroken bytes → IsContentsLine mid bytes after → AreContentsLines before (text ++ (bytes ++ line_feed ∷ [])) after
one_more before text mid bytes after (no-line _) u f = next-line before bytes after [] after u f (no-line after)
one_more before text mid bytes after (next-line _ first with_it rest _ v g r) u f =
    rw (append_assoc first (line_feed ∷ rest) (bytes ++ line_feed ∷ [])) (next-line before first with_it (rest ++ (bytes ++ line_feed ∷ [])) after v g (one_more with_it rest mid bytes after r u f))

-- where a text is lines, what stands behind some of its lines is the others
pub rest_lines : (before : Told) (good : List ℕ) (mid : Told) (bad : List ℕ) (after : Told)
    → AreContentsLines before good mid → AreContentsLines before (good ++ bad) after → AreContentsLines mid bad after
rest_lines before good mid bad after (no-line _) all = all
rest_lines before good mid bad after (next-line _ bytes with_it rest _ u f r) all =
    let e : (bytes ++ line_feed ∷ rest) ++ bad ≡ bytes ++ line_feed ∷ (rest ++ bad) = append_assoc bytes (line_feed ∷ rest) bad in
    elim (parts before _ after all) [
      | inl none ↦ absurd (not_empty bytes (rest ++ bad) (sym none.0 ∙ e))
      | inr n ↦ (let first = first_lines bytes n.bytes (rest ++ bad) n.rest u n.unbroken (sym e ∙ n.whole) in
          let same : n.with_it ≡ with_it = one_line before n.bytes n.with_it with_it n.first (subst (λ l. IsContentsLine before l with_it) first.0 f) in
          let others : AreContentsLines with_it (rest ++ bad) after = subst (λ w. AreContentsLines w (rest ++ bad) after) same (subst (λ t. AreContentsLines n.with_it t after) (sym first.1) n.others) in
          rest_lines with_it rest mid bad after r others)
    ]

-- lines tell one thing
pub one_told : (before : Told) (text : List ℕ) (a b : Told) → AreContentsLines before text a → AreContentsLines before text b → a ≡ b
one_told before text a b ra rb =
    let rest = rest_lines before text a [] b ra (subst (λ t. AreContentsLines before t b) (sym (append-nil text)) rb) in
    elim (parts a [] b rest) [
      | inl none ↦ sym none.1
      | inr n ↦ absurd (not_empty n.bytes n.rest n.whole)
    ]

-- a text is that of one contents
pub one_reading : (text : List ℕ) (a b : Held) → IsContentsText text a → IsContentsText text b → a ≡ b
one_reading text a b ra rb = let e = one_told nothing text (part (length a) a) (part (length b) b) ra rb in cc

-- and of none where a line is bad
pub no_reading : (text : List ℕ) (n : ℕ) (bytes : Held) → IsFirstBadContentsLine text n → IsContentsText text bytes → ⊥
no_reading text n bytes bad r =
    let rest = rest_lines nothing bad.good bad.so_far bad.bad (part (length bytes) bytes) bad.lines (subst (λ t. AreContentsLines nothing t (part (length bytes) bytes)) bad.whole r) in
    elim (parts bad.so_far bad.bad (part (length bytes) bytes) rest) [
      | inl none ↦ bad.lacks bytes none.0 (sym none.1)
      | inr n ↦ bad.ends n.bytes n.rest n.with_it n.unbroken n.whole n.first
    ]

-- a line counts one more
pub ended_line : (bytes rest : List ℕ) → IsUnbroken bytes → lines_ended (bytes ++ line_feed ∷ rest) ≡ lines_ended rest + 1
ended_line bytes rest u =
    let both = ended-append bytes (line_feed ∷ rest) in
    let none = none_ended bytes u in
    let first : lines_ended (line_feed ∷ rest) ≡ 1 + lines_ended rest = ended-append (line_feed ∷ []) rest in
    omega (arith, both, none, first)

-- what a text has behind its first lines, where two say what is bad there
abbrev Ends : Told → List ℕ → Type 0
Ends so_far bad = (bytes rest : List ℕ) (more : Told) → IsUnbroken bytes → bad ≡ bytes ++ line_feed ∷ rest → IsContentsLine so_far bytes more → ⊥

same_end : (before : Told) (good : List ℕ) (s : Told) (bad other : List ℕ) (t : Told) (worse : List ℕ)
    → AreContentsLines before good s → Ends s bad → AreContentsLines before other t → Ends t worse → good ++ bad ≡ other ++ worse → lines_ended good ≡ lines_ended other
same_end before good s bad other t worse (no-line _) ends r over e =
    elim (parts before other t r) [
      | inl none ↦ ap lines_ended (sym none.0)
      | inr n ↦ absurd (ends n.bytes (n.rest ++ worse) n.with_it n.unbroken (e ∙ ap (λ l. l ++ worse) n.whole ∙ append_assoc n.bytes (line_feed ∷ n.rest) worse) n.first)
    ]
same_end before good s bad other t worse (next-line _ bytes with_it rest _ u f more) ends r over e =
    let split : (bytes ++ line_feed ∷ rest) ++ bad ≡ bytes ++ line_feed ∷ (rest ++ bad) = append_assoc bytes (line_feed ∷ rest) bad in
    elim (parts before other t r) [
      | inl none ↦ (let start : t ≡ before = none.1 in
          absurd (over bytes (rest ++ bad) with_it u (sym (ap (λ l. l ++ worse) none.0) ∙ sym e ∙ split) (subst (λ w. IsContentsLine w bytes with_it) (sym start) f)))
      | inr n ↦ (let whole : other ++ worse ≡ n.bytes ++ line_feed ∷ (n.rest ++ worse) = ap (λ l. l ++ worse) n.whole ∙ append_assoc n.bytes (line_feed ∷ n.rest) worse in
          let first = first_lines bytes n.bytes (rest ++ bad) (n.rest ++ worse) u n.unbroken (sym split ∙ e ∙ whole) in
          let same : n.with_it ≡ with_it = one_line before n.bytes n.with_it with_it n.first (subst (λ l. IsContentsLine before l with_it) first.0 f) in
          let others : AreContentsLines with_it n.rest t = subst (λ w. AreContentsLines w n.rest t) same n.others in
          let count = same_end with_it rest s bad n.rest t worse more ends others over first.1 in
          let left = ended_line bytes rest u in
          let right : lines_ended other ≡ lines_ended n.rest + 1 = ap lines_ended n.whole ∙ ended_line n.bytes n.rest n.unbroken in
          omega (arith, left, right, count))
    ]

-- a text has one first bad line
pub one_first_bad : (text : List ℕ) (m n : ℕ) → IsFirstBadContentsLine text m → IsFirstBadContentsLine text n → m ≡ n
one_first_bad text m n a b = grind (arith, same_end)

-- ---- how far a text was read

pub none_seen : (text : List ℕ) → Seen text text 0 nothing
none_seen text = record { good = []; whole = refl; lines = no-line nothing; count = refl }

pub line_seen : (text rest bytes behind : List ℕ) (number : ℕ) (so_far more : Told) → Seen text rest number so_far
    → IsUnbroken bytes → rest ≡ bytes ++ line_feed ∷ behind → IsContentsLine so_far bytes more → Seen text behind (number + 1) more
line_seen text rest bytes behind number so_far more past u whole f = grind (arith, append_assoc, one_more, ended-append, ended_line)

-- a line that is none there is the first bad one
pub bad_line : (text rest bytes behind : List ℕ) (number : ℕ) (so_far : Told) → Seen text rest number so_far
    → IsUnbroken bytes → rest ≡ bytes ++ line_feed ∷ behind → ((more : Told) → IsContentsLine so_far bytes more → ⊥) → IsFirstBadContentsLine text (number + 1)
bad_line text rest bytes behind number so_far past u whole none = grind (arith, first_lines, not_empty)

-- bytes with no LF, or none where more has to be told, are the first bad line
pub short_text : (text rest : List ℕ) (number : ℕ) (so_far : Told) → Seen text rest number so_far → IsUnbroken rest
    → ((bytes : Held) → rest ≡ [] → so_far ≡ part (length bytes) bytes → ⊥) → IsFirstBadContentsLine text (number + 1)
short_text text rest number so_far past u none = grind (arith, broken)

-- a text that was read to its end
pub whole_text : (text rest : List ℕ) (number : ℕ) (bytes : Held) (n : ℕ) → Seen text rest number (part n bytes) → rest ≡ [] → n ≡ length bytes → IsContentsText text bytes
whole_text text rest number bytes n past none is = grind (arith, append-nil)

-- where the text is one, the only fault is out of memory
pub only_memory : (text : List ℕ) (fault : ContentsFault) → IsContentsFault text fault → (bytes : Held) → IsContentsText text bytes → fault ≡ contents_faults.Memory
only_memory text fault is bytes read = grind (arith, no_reading)

-- a line makes what is left shorter
pub shorter : (rest bytes behind : List ℕ) → rest ≡ bytes ++ line_feed ∷ behind → length behind + 1 ≤ length rest
shorter rest bytes behind e = let all = length-append bytes (line_feed ∷ behind) in let same = ap length e in omega (arith, all, same)

-- what a test of the length says
pub no_rest : (rest : List ℕ) → true ≡ (length rest == 0) → rest ≡ []
no_rest [] e = refl
no_rest (b ∷ bs) e = let h = eqb-true (length (b ∷ bs)) 0 (sym e) in absurd (omega (arith, h))

pub some_rest : (rest : List ℕ) → false ≡ (length rest == 0) → rest ≡ [] → ⊥
some_rest rest e none = let h : false ≡ (length {A = ℕ} [] == 0) = e ∙ ap (λ l. length l == 0) none in cc h

-- where all is told, the bytes go up to the size
pub told_all : (contents : Extents) (at : ℕ) (bytes : Held) → up_to contents at ≡ part (length bytes) bytes → at ≡ size_of contents
told_all contents at bytes is = grind (arith, length-held_from)
