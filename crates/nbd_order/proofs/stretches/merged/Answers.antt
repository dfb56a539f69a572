use Rattle.nbd_order.proofs.{Common.{◌<◌, inl, inr, sym, ◌∙◌, ap, arith, refl, cases_lt, drop, get_or, length}, StretchLemmas.{merge_end, merge_step}, stretches.merged.Goals.{else-loop-i-test, then-loop-i-test+else-j-later}}
use Rattle.std.specs.Option.{option_or}
use Rattle.std.proofs.lemmas.Option.{slice_get-get_or}
use Rattle.nbd_order.specs.{declared.stretches.Stretch.Stretch, internal.Here.{nothing, joined_if, stretch_here}}
use Rattle.nbd_order.proofs.stretches.merged.Goals as goal

pub loop-i-preserved : goal.loop-i-preserved
loop-i-preserved c =
    let ps = c.args.earlier.now in
    let qs = c.args.later.now in
    let i = c.loop-i.i in
    let j = c.loop-i.j in
    let d : Stretch = record { end = 0; here = nothing } in
    let p : Stretch = get_or ps i d in
    let q : Stretch = get_or qs j d in
    let left : i < length ps = c.loop-i-test.true in
    let right : j < length qs = c.if-j-later.true in
    record {
      earlier = elim (cases_lt c.min-end.result p.end) [ inl l ↦ (let e = c.past-i.ensures.kept l in omega (arith, e)) | inr l ↦ (let e = c.past-i.ensures.passed l in omega (arith, e)) ];
      later = elim (cases_lt c.min-end.result q.end) [ inl l ↦ (let e = c.past-j.ensures.kept l in omega (arith, e)) | inr l ↦ (let e = c.past-j.ensures.passed l in omega (arith, e)) ];
      stretches = λ x.
          ap (λ stretches. option_or (stretch_here stretches x) (joined_if (stretch_here (drop c.past-i.result ps) x) (stretch_here (drop c.past-j.result qs) x))) c.in_ok-push.ensures.items
          ∙ merge_step c.loop-i.stretches.items ps qs i j c.past-i.result c.past-j.result c.min-end.result p q (record { end = c.min-end.result; here = c.joined-here.result })
          (slice_get-get_or ps i d left) (slice_get-get_or qs j d right) c.min-end.ensures c.past-i.ensures.passed c.past-i.ensures.kept c.past-j.ensures.passed c.past-j.ensures.kept refl c.joined-here.ensures x
          ∙ c.loop-i.invariant.stretches x;
    }

pub returns : goal.returns
returns c = elim c.loop-i-test.branch [
  | then-loop-i-test+else-j-later w ↦ λ x. sym (merge_end (stretch_here c.loop-i.stretches.items x) c.args.earlier.now c.args.later.now c.loop-i.i c.loop-i.j x (inr w.if-j-later.false)) ∙ c.loop-i.invariant.stretches x
  | else-loop-i-test w ↦ λ x. sym (merge_end (stretch_here c.loop-i.stretches.items x) c.args.earlier.now c.args.later.now c.loop-i.i c.loop-i.j x (inl w.loop-i-test.false)) ∙ c.loop-i.invariant.stretches x
]
