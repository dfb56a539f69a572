use Rattle.nbd_wire.proofs.{Common.{arith, refl, sym, ◌∙◌, ap, ◌-◌, are_queries}, QueryLemmas.{behind, no_more, none_less, one_less}}
use Rattle.nbd_wire.proofs.option_payloads.are_queries.Goals as goal

pub returns-in_default : goal.returns-in_default
returns-in_default c = sym (none_less c.loop-left.left c.loop-left.rest.now c.loop-left-test.true (sym c.in_default.ensures.same)) ∙ c.loop-left.invariant

pub loop-left-preserved : goal.loop-left-preserved
loop-left-preserved c =
    let rest = c.loop-left.rest.now in
    let behind_it = c.in-Some.behind.now in
    ap (are_queries (c.loop-left.left - 1)) (sym (behind c.in-Some.field-0-0.now behind_it rest ((c.in-Some.ensures.form (c.in-Some.field-0-0.now, behind_it)).0 refl)))
    ∙ sym (one_less c.loop-left.left rest c.loop-left-test.true (sym c.in-Some.ensures.same)) ∙ c.loop-left.invariant

pub returns : goal.returns
returns c = c.is_empty.ensures ∙ sym (no_more c.loop-left.left c.loop-left.rest.now (omega (arith, c.loop-left-test.false))) ∙ c.loop-left.invariant
