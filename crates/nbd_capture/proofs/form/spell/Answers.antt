use Rattle.nbd_capture.proofs.{Common.{arith, ◌++◌, ◌∷◌, sym, subst, letter, space, IsOf}, SpellLemmas.{no_second, on_form, with_second}}
use Rattle.nbd_capture.proofs.form.spell.Goals as goal

pub returns-then-branch : goal.returns-then-branch
returns-then-branch c =
    let spelled = rw c.if-branch.true at c.in_ok-append_spelled.ensures.spelled in
    on_form c.spell_pairs-then-branch.result _ _ c.spell_pairs-then-branch.ensures (λ form next before s.
    subst (λ l. IsOf form c.spell_pairs-then-branch.new.bytes.items (letter c.args.side ∷ space ∷ (before ++ l))) (sym c.in-Some-split_first.ensures.cases.0)
    (with_second c.args.side before c.in-Some-split_first.rest.now c.args.bytes.now.items spelled.0 c.append_spelled.new.bytes.items c.spell_pairs-then-branch.new.bytes.items
    c.in-Some.first c.in-Some-split_first.second.now c.args.half form c.in-Some.is spelled.1 spelled.2 s next))

pub returns-else-branch : goal.returns-else-branch
returns-else-branch c = grind (arith, no_second)
