use Rattle.nbd_export.proofs.{Common.{◌≡◌, Some, refl, sym, ◌∙◌, ap, arith, rules, same_true, same_false, the_type, kind_before, kind_from}, KindLemmas.{apart_at_first, kind_joined, kind_unjoined, kind_before-pred, other_key}}
use Rattle.nbd_export.proofs.starts.join.Goals as goal

pub returns-then-at-eq0-clause-done : goal.returns-then-at-eq0-clause-done
returns-then-at-eq0-clause-done c = record {
  kinds = λ x. refl;
  others = λ x ne. refl;
  first = refl;
  fewer = λ x e. e;
  apart = apart_at_first (kind_from c.args.starts.now) c.args.at c.if-at-eq0.true;
}

pub returns-then-eq-clause-done : goal.returns-then-eq-clause-done
returns-then-eq-clause-done c =
    let from = kind_from c.args.starts.now in
    let pred = kind_before-pred from c.args.at (omega arith) in
    let same = same_true the_type (search rules) _ _ (sym c.if-eq.ensures) in
    let before : kind_before from c.args.at ≡ Some c.in-Some.kind.now = pred ∙ c.kind_at-before.ensures ∙ ap Some same in
    kind_joined from (kind_from c.remove.new.self) c.args.at c.in-Some.kind.now (omega arith) (search rules) before c.remove.ensures.updates.1
    (λ k ne. c.remove.ensures.updates.2 k (other_key c.args.at k (λ e. ne (sym e))))

pub returns-else-eq-clause-done : goal.returns-else-eq-clause-done
returns-else-eq-clause-done c =
    let from = kind_from c.args.starts.now in
    let pred = kind_before-pred from c.args.at (omega arith) in
    kind_unjoined from c.args.at (λ kind here before.
    (let earlier : Some c.kind_at-before.result ≡ Some kind = sym c.kind_at-before.ensures ∙ sym pred ∙ before in
    let later : Some c.in-Some.kind.now ≡ Some kind = search rules in
    same_false the_type _ _ (sym c.if-eq.ensures) (cc)))
