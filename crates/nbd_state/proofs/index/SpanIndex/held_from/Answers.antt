use Rattle.nbd_state.proofs.{Common.{◌≡◌, arith, is_lt, false, nat_tests, common_steps, size_from}, IndexLemmas.held-from}
use Rattle.std.proofs.Common.{nat_cmp}
use Rattle.nbd_state.proofs.index.SpanIndex.held_from.Goals as goal

pub returns-in-Some : goal.returns-in-Some
returns-in-Some c =
    let r = c.range.ensures.in_range tt in
    let e = r.3 _ _ c.in-Some.ensures.steps in
    let last = r.4 _ _ c.in-Some.ensures.steps in
    let first = c.in-Some.first.now in
    held-from (size_from c.args.self.now.sizes) c.args.offset first c.in-Some.size.now c.saturating_sub.result c.args.self.now.apart
    e.1 (grind (arith, common_steps, e))
    (λ q l s. (let before : is_lt (nat_cmp first q) ≡ false = last q (tt, grind (arith, nat_tests)) s in grind (arith, nat_tests)))
    c.saturating_sub.ensures
