use Rattle.nbd_export.proofs.{Common.{◌≡◌, ℕ, ◌-◌, ◌+◌, ◌<◌, ◌≤◌, ◌⊎◌, inl, inr, IsSome, ◌∙◌, ap, sym, subst, refl, arith, ⊎_elim, cases_lt, kind_from, ranges_met}, KindLemmas.met_one}
use Rattle.nbd_export.proofs.kinds.Kinds.count_in.Goals as goal

pub loop-at-init : goal.loop-at-init
unfolding ranges_met
loop-at-init c =
    let none : c.args.first - c.args.first ≡ 0 = omega arith in
    record { from = omega arith; to = inl refl; few = omega arith; met = sym (ap (ranges_met (kind_from c.args.self.now.starts) c.args.first) none); begun = inl none }

pub loop-at-preserved : goal.loop-at-preserved
loop-at-preserved c =
    let f = kind_from c.args.self.now.starts in
    let n : ℕ = c.loop-at.at - c.args.first in
    let m : ℕ = c.end_of-at.result - c.args.first in
    let here : c.args.first + n ≡ c.loop-at.at = omega (arith, c.loop-at.invariant.from) in
    let begun : (n ≡ 0) ⊎ IsSome (f (c.args.first + n)) = elim c.loop-at.invariant.begun [
      | inl z ↦ inl z
      | inr (inl e) ↦ absurd (omega (arith, e, c.loop-at-test.true))
      | inr (inr s) ↦ inr (subst (λ (x : ℕ). IsSome (f x)) (sym here) s)
    ] in
    let one : ranges_met f c.args.first m ≡ ranges_met f c.args.first n + 1 =
    met_one f c.args.first n m (omega (arith, c.loop-at.invariant.from, c.end_of-at.ensures.behind)) begun (λ y lo hi. c.end_of-at.ensures.one y (omega (arith, here, lo)) (omega (arith, here, hi, c.end_of-at.ensures.behind))) in
    record {
      from = omega (arith, c.loop-at.invariant.from, c.end_of-at.ensures.behind);
      to = inr c.end_of-at.ensures.within;
      few = omega (arith, c.loop-at.invariant.few, c.loop-at.invariant.from, c.end_of-at.ensures.behind);
      met = ap (λ m. m + 1) c.loop-at.invariant.met ∙ sym one;
      begun = inr (⊎_elim (λ (lt : c.end_of-at.result < c.args.end). inr (c.end_of-at.ensures.next lt)) (λ (ge : c.args.end ≤ c.end_of-at.result). inl (omega (arith, ge, c.end_of-at.ensures.within)))
          (cases_lt c.end_of-at.result c.args.end));
    }

pub returns : goal.returns
returns c =
    let all : c.loop-at.at - c.args.first ≡ c.args.end - c.args.first = elim c.loop-at.invariant.to [
      | inl e ↦ omega (arith, e, c.loop-at-test.false)
      | inr l ↦ omega (arith, l, c.loop-at-test.false)
    ] in
    c.loop-at.invariant.met ∙ ap (ranges_met (kind_from c.args.self.now.starts) c.args.first) all
