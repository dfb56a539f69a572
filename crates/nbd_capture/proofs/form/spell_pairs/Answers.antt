use Rattle.nbd_capture.proofs.{Common.{◌++◌, ◌∙◌, arith, take-append-drop}, SpellLemmas.{no_line, with_pairs}}
use Rattle.nbd_capture.proofs.form.spell_pairs.Goals as goal

pub returns-then-branch : goal.returns-then-branch
returns-then-branch c = λ before b.
    let spelled = rw c.if-branch.true at c.in_ok-append_spelled.ensures.spelled in
    with_pairs c.args.side c.args.digits.now c.split_at.result.0.now c.split_at.result.1.now before c.args.bytes.now.items c.append_spelled.new.bytes.items c.copied-half.result
    ((λ i. c.split_at.ensures.front i ++ c.split_at.ensures.back i) ∙ take-append-drop _ c.args.digits.now) (let n = c.split_at.ensures.back_len in omega (arith, n)) (c.copied-half.ensures ∙ c.first.ensures.value) spelled b

pub returns-else-branch : goal.returns-else-branch
returns-else-branch c = grind (arith, no_line, take-append-drop)
