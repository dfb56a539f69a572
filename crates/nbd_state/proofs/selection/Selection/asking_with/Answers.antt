use Rattle.nbd_state.proofs.{Common.{ℕ, ◌≡◌, ◌&&◌, ◌∙◌, ap, false, not, refl, rules, sym, contains, nat_cmp, is_among, ids_of}, selection.Selection.asking_with.Goals.{then-has, else-has}}
use Rattle.nbd_state.proofs.selection.Selection.asking_with.Goals as goal

pub returns : goal.returns
returns c = λ selection len s some.
    let empty : (q : ℕ) → contains nat_cmp c.new-asked.result q ≡ false = λ q. search rules in
    let taken = c.in_ok-are_once.ensures selection s empty in
    record {
      has_contexts_is = sym (ap not some);
      length_is = refl;
      takes_filter_is = elim c.if-has.branch [
        | then-has w ↦ (let once = taken.0 in search rules)
        | else-has w ↦ search rules
      ];
      told_are = λ id h. ap not (taken.1 id ∙ ap (λ b. b && is_among (ids_of c.args.ids.now) id) h);
    }
