use Rattle.nbd_export.proofs.{Common.{◌≡◌, ◌<◌, is_gt, nat_cmp, false, arith, nat_tests, kind_from}, KindLemmas.none_unless}
use Rattle.nbd_export.proofs.starts.end_of.Goals as goal

pub returns-in-Some-clause-one : goal.returns-in-Some-clause-one
returns-in-Some-clause-one c = λ x lo hi.
    let r = c.range.ensures.in_range tt in
    let least = rw c.in-Some.ensures.steps at r.2 in
    let size : c.in-Some.start.now < c.args.size = (let e = rw c.in-Some.ensures.steps at r.1 in grind (arith, nat_tests, e)) in
    none_unless (kind_from c.args.starts.now) x
    (λ s. (let before : is_gt (nat_cmp c.in-Some.start.now x) ≡ false = least x (grind (arith, nat_tests), grind (arith, nat_tests)) s in grind (arith, nat_tests)))
