use Rattle.nbd_export.proofs.{Common.{◌≡◌, ◌≤◌, ◌∙◌, None, arith, is_lt, nat_cmp, false, nat_tests, common_steps, kind_from}, KindLemmas.{kind_at-along, kind_at-here, none_behind, same_none}}
use Rattle.nbd_export.proofs.starts.kind_at.Goals as goal

pub returns : goal.returns
returns c =
    let r = c.range.ensures.in_range tt in
    let e = r.3 _ _ c.in-Some.ensures.steps in
    let last = r.4 _ _ c.in-Some.ensures.steps in
    let from = kind_from c.args.starts.now in
    let start = c.in-Some.field-0-0.now in
    let le : start ≤ c.args.offset = grind (arith, common_steps, e) in
    let none = none_behind from start c.args.offset
    (λ q l s. (let before : is_lt (nat_cmp start q) ≡ false = last q (tt, grind (arith, nat_tests)) s in grind (arith, nat_tests))) in
    kind_at-along from start c.args.offset none le ∙ kind_at-here from start c.in-Some.kind.now e.1

pub unreachable-requires : goal.unreachable-requires
unreachable-requires c =
    let r = c.range.ensures.in_range tt in
    let none : kind_from c.args.starts.now 0 ≡ None = r.5 c.in-None.ensures.steps.0 0 (tt, grind (arith, nat_tests)) in
    absurd (same_none (kind_from c.args.starts.now 0) none c.requires)
