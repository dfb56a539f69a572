use Rattle.nbd_wire.proofs.{Common.{◌-◌, length, sym, ◌∙◌, ap, arith, length-drop, ◌≡◌, ◌*◌, has_number}, ListedReadLemmas.cut_behind, SizeLemmas.first_is_not}
use Rattle.nbd_wire.proofs.sizes.has_number.Goals as goal

pub loop-left-preserved : goal.loop-left-preserved
loop-left-preserved c =
    let rest = c.loop-left.rest.now in
    let left = c.loop-left.left in
    let cut = cut_behind 2 rest in
    let long : length rest ≡ 2 * left = c.loop-left.invariant.long in record {
      same = ap (has_number c.args.wanted (left - 1)) cut ∙ sym (first_is_not c.args.wanted left rest c.loop-left-test.true (λ e. c.if-u16_at-wanted.false (c.u16_at.ensures ∙ e))) ∙ c.loop-left.invariant.same;
      long = ap length cut ∙ length-drop 2 rest ∙ (let positive = c.loop-left-test.true in omega (arith, long, positive));
    }
