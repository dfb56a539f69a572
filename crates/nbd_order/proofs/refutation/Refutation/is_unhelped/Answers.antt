use Rattle.nbd_order.proofs.{Common.{◌≡◌, ◌+◌, ◌≤◌, inl, inr, length, sym, subst, arith, cases_eq, HelpsNot}, ServiceLemmas.numbered}
use Rattle.nbd_order.proofs.refutation.Refutation.is_unhelped.Goals as goal

pub loop-i-preserved : goal.loop-i-preserved
loop-i-preserved c =
    let count : c.count-i-end.result ≡ length c.args.transcript.now.asked = c.count-i-end.ensures.count in
    let f = c.args.self.now in
    record {
      within = omega arith;
      none = λ got w l. elim (cases_eq w (c.loop-i.i + 1)) [
        | inl e ↦ subst (λ n. HelpsNot c.args.profile c.args.transcript.now f.offset f.changes.items n c.args.k) (sym e) (c.helps_not.ensures c.if-not-helps_not.false got)
        | inr ne ↦ c.loop-i.invariant.none got w (omega arith)
      ];
    }

pub returns : goal.returns
returns c = λ t got w e change.
    let count : c.count-i-end.result ≡ length c.args.transcript.now.asked = c.count-i-end.ensures.count in
    let n = numbered w c.args.transcript.now.asked e change.0 in
    c.loop-i.invariant.none got w (let l : w ≤ length c.args.transcript.now.asked = n.1 in omega arith) e change
