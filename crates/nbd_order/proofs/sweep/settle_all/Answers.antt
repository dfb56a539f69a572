use Rattle.nbd_order.proofs.{Common.{◌≡◌, ℕ, ◌<◌, ◌≤◌, inl, inr, Option, Some, sym, ◌∙◌, ap, subst, arith, cases_lt, get_or, slice_get, Report}, SettleLemmas.{left_next, none_behind, step_done, step_rest, told_here}, sweep.settle_all.Goals.{else-at-end, then-at-end+in_ok-settle}}
use Rattle.std.specs.Prelude.{min}
use Rattle.std.proofs.lemmas.Option.{slice_get-get_or}
use Rattle.nbd_export.specs.Extents.{byte_of, size_of}
use Rattle.nbd_order.specs.{declared.stretches.Stretch.Stretch, internal.Here.{here_at, nothing}}
use Rattle.nbd_judge.proofs.contents.CompareLemmas.{from_in}
use Rattle.nbd_order.proofs.sweep.settle_all.Goals as goal

pub loop-stretch-preserved : goal.loop-stretch-preserved
loop-stretch-preserved c =
    let r : Report = c.args.transcript.now in
    let first : ℕ → Option ℕ = byte_of c.args.contents.now in
    let old : ℕ → Option ℕ = byte_of c.loop-stretch.contents in
    let size : ℕ = size_of c.args.contents.now in
    let inv = c.loop-stretch.invariant in
    let i = c.loop-stretch.stretch-index in
    let p : Stretch = get_or c.args.stretches.now i (record { end = 0; here = nothing }) in
    let at : slice_get c.args.stretches.now i ≡ Some p = slice_get-get_or c.args.stretches.now i (record { end = 0; here = nothing }) c.loop-stretch-test.true in
    let ends : c.min-end.result ≡ min p.end size = c.min-end.ensures ∙ ap (min p.end) (c.size.ensures ∙ inv.size) in
    elim c.if-at-end.branch [
      | then-at-end+in_ok-settle w ↦
          let some : c.loop-stretch.at < c.min-end.result = w.if-at-end.true in
          let fits : c.min-end.result ≤ size = omega (arith, ends) in
          let made = λ (x : ℕ) (l : x < size). w.in_ok-settle.ensures.done x (subst (λ n. x < n) (sym inv.size) l) in
          record {
            size = ap size_of w.contents-is ∙ w.settle.ensures.size ∙ inv.size;
            within = subst (λ n. n ≤ size) (sym w.at-is) fits;
            left = λ x lo hi. (let e = w.at-is in left_next c.args.stretches.now i p x at (omega (arith, ends, e)) (inv.left x (omega (arith, some, e)) hi));
            done = λ x l. ap (λ e. byte_of e x) w.contents-is ∙ step_done r first old (byte_of w.settle.new.contents) c.loop-stretch.at c.min-end.result size some fits inv.done inv.rest made x (subst (λ n. x < n) w.at-is l);
            rest = λ x lo hi. ap (λ e. byte_of e x) w.contents-is ∙ step_rest r first old (byte_of w.settle.new.contents) c.loop-stretch.at c.min-end.result size some fits inv.rest made x (subst (λ n. n ≤ x) w.at-is lo) hi;
          }
      | else-at-end w ↦
          let none : c.min-end.result ≤ c.loop-stretch.at = w.if-at-end.false in
          record {
            size = ap size_of w.contents-is ∙ inv.size;
            within = subst (λ n. n ≤ size) (sym w.at-is) inv.within;
            left = λ x lo hi. (let e = w.at-is in left_next c.args.stretches.now i p x at (omega (arith, ends, e, none)) (inv.left x (omega (arith, e)) hi));
            done = λ x l. ap (λ e. byte_of e x) w.contents-is ∙ inv.done x (subst (λ n. x < n) w.at-is l);
            rest = λ x lo hi. ap (λ e. byte_of e x) w.contents-is ∙ inv.rest x (subst (λ n. n ≤ x) w.at-is lo) hi;
          }
    ]

pub returns-clause-done : goal.returns-clause-done
returns-clause-done c = λ x l.
    let inv = c.loop-stretch.invariant in
    elim (cases_lt x c.loop-stretch.at) [
      | inl before ↦ inv.done x before
      | inr behind ↦ none_behind c.args.stretches.now c.loop-stretch.stretch-index x (here_at c.args.transcript.now.asked x) c.loop-stretch-test.false (inv.left x behind l) (c.requires.stretches x l)
    ]

pub settle-requires : goal.settle-requires
settle-requires c =
    let size : ℕ = size_of c.args.contents.now in
    let inv = c.loop-stretch.invariant in
    let i = c.loop-stretch.stretch-index in
    let p : Stretch = get_or c.args.stretches.now i (record { end = 0; here = nothing }) in
    let at : slice_get c.args.stretches.now i ≡ Some p = slice_get-get_or c.args.stretches.now i (record { end = 0; here = nothing }) c.loop-stretch-test.true in
    let ends : c.min-end.result ≡ min p.end size = c.min-end.ensures ∙ ap (min p.end) (c.size.ensures ∙ inv.size) in
    let some : c.loop-stretch.at < c.min-end.result = c.if-at-end.true in
    let same = inv.size in
    record {
      sound = c.requires.sound;
      some = omega (arith, some);
      fits = omega (arith, some, ends, same);
      told = λ x inside.
          let w = from_in _ _ x inside in
          let lo : c.loop-stretch.at ≤ x = w.0 in
          let hi = w.1 in
          let below : x < size = omega (arith, hi, ends, some) in
          told_here c.args.stretches.now i p x (here_at c.args.transcript.now.asked x) at (omega (arith, hi, ends, some)) (inv.left x lo below) (c.requires.stretches x below);
    }
