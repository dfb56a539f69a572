use Rattle.nbd_capture.proofs.{Common.{◌∷◌, ◌∙◌, [], sym, ap, subst, AreDigits, letter, none, IsOf}, SpellLemmas.on_form}
use Rattle.nbd_capture.proofs.form.part_from_digits.Goals as goal

pub returns-in-Some : goal.returns-in-Some
returns-in-Some c =
    on_form c.spell.result _ _ c.spell.ensures (λ form next nothing.
    subst (λ l. IsOf form c.spell.new.bytes.items (letter c.args.side ∷ l)) (sym (c.in-Some.ensures.cases.0 ∙ ap (λ b. b ∷ c.in-Some.digits.now) c.if-first-eq32.true))
    (next [] (subst (AreDigits []) (sym nothing) none)))
