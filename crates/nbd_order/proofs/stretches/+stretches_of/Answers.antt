use Rattle.nbd_order.proofs.{Common.{◌≡◌, ℕ, ◌<◌, Some, ◌∙◌, ap}, StretchLemmas.halves}
use Rattle.std.specs.declared.{alloc.Global.Global, vec.Vec.Vec}
use Rattle.std.proofs.lemmas.Result.{IfOk-weaker}
use Rattle.nbd_order.specs.{declared.stretches.Stretch.Stretch, internal.Here.{joined_if, stretch_here, touches_here}}
use Rattle.nbd_order.proofs.stretches.+stretches_of.Goals as goal

pub returns-then-touches-gt1 : goal.returns-then-touches-gt1
returns-then-touches-gt1 t c =
    let ts = c.args.touches.now in
    let fs = c.split_at.result.0.now in
    let gs = c.split_at.result.1.now in
    let ps = c.deref.result.now in
    let qs = c.deref-then-touches-gt1.result.now in
    IfOk-weaker c.merged.result (λ (stretches : Vec Stretch Global). (x : ℕ) → stretch_here stretches.items x ≡ joined_if (stretch_here ps x) (stretch_here qs x)) (λ (stretches : Vec Stretch Global). (x : ℕ) → x < c.args.size → stretch_here stretches.items x ≡ Some (touches_here ts x))
    (λ stretches h x l.
    h x
    ∙ ap (λ o. joined_if o (stretch_here qs x)) (ap (λ l. stretch_here l x) c.deref.ensures.value ∙ c.in_ok-earlier.ensures x l)
    ∙ ap (joined_if (Some (touches_here fs x))) (ap (λ l. stretch_here l x) c.deref-then-touches-gt1.ensures.value ∙ c.in_ok-later.ensures x l)
    ∙ ap Some (halves ts fs gs _ c.split_at.ensures.front c.split_at.ensures.back x))
    c.merged.ensures
