use Rattle.nbd_export.proofs.{Common.{◌<◌, ◌∙◌, inl, inr, arith, common_steps, nat_tests}, KindLemmas.other_key}
use Rattle.nbd_export.proofs.starts.clear_between.Goals as goal

pub loop-start-preserved : goal.loop-start-preserved
loop-start-preserved c =
    let r = c.range.ensures.in_range tt in
    let e = rw c.in-Some.ensures.steps at r.1 in
    let lo : c.args.first < c.in-Some.start.now = grind (arith, nat_tests, e) in
    let hi : c.in-Some.start.now < c.args.end = grind (arith, nat_tests, e) in
    record {
      outside = λ k d. c.remove.ensures.updates.2 k (other_key c.in-Some.start.now k (λ q. elim d [ inl l ↦ omega arith | inr l ↦ omega arith ])) ∙ c.loop-start.invariant.outside k d;
      fewer = grind (arith, common_steps, c.remove.ensures.len, c.loop-start.invariant.fewer);
    }
