-- Words of a line, which one space parts: a text has one first word.
use Rattle.nbd_lines.proofs.Common.{arith, ◌≡◌, ℕ, List, [], ◌∷◌, ◌++◌, length, take, drop, refl, sym, ap, ◌∙◌, ◌+◌, true, false, nat_eq, Option, Some, None, MatchOption, Bor, take-append_seam, pointwise, take-append-drop, EndsWord, IsSpaceless}
use Rattle.std.specs.Cmp.Lexicographic.{same_text}
use Rattle.nbd_capture.proofs.ContentsLineLemmas.{pointwise-refl}

-- two splits of one text into a first word and the rest are the same
pub same_word : (a b x y : List ℕ) → IsSpaceless a → IsSpaceless b → EndsWord x → EndsWord y → a ++ x ≡ b ++ y → (a ≡ b) × (x ≡ y)
same_word [] [] x y sa sb ex ey e = (refl, e)
same_word [] (b ∷ bs) x y sa sb ex ey e = grind arith
same_word (a ∷ prefix) [] x y sa sb ex ey e = grind arith
same_word (a ∷ prefix) (b ∷ bs) x y sa sb ex ey e = grind (arith, same_word prefix bs x y sa.1 sb.1 ex ey)

-- what `strip_prefix` answers
pub strip_is_prefix : (prefix text : List ℕ) (r : Option (Bor (List ℕ)))
    → MatchOption r (pointwise nat_eq (take (length prefix) text) prefix ≡ false) (λ x. (pointwise nat_eq (take (length prefix) text) prefix ≡ true) × (x.now ≡ drop (length prefix) text) × (length x.now + length prefix ≡ length text))
    → MatchOption r ((rest : List ℕ) → text ≡ prefix ++ rest → ⊥) (λ x. text ≡ prefix ++ x.now)
strip_is_prefix prefix text None h = grind (arith, take-append_seam, pointwise-refl, nat_eq)
strip_is_prefix prefix text (Some x) h =
    let same : take (length prefix) text ≡ prefix = same_text (take (length prefix) text) prefix (sym h.0) in
    sym (take-append-drop (length prefix) text) ∙ ap (λ l. l ++ drop (length prefix) text) same ∙ ap (λ l. prefix ++ l) (sym h.1)
