use Rattle.nbd_order.proofs.{Common.{subst, sym, initial_of, Passes, IsFound}, FoundLemmas.passes, finding.judged.Goals.{then-eq+then-not-are_whole, else-eq}}
use Rattle.nbd_order.proofs.finding.judged.Goals as goal

pub returns-after-eq-clause-found : goal.returns-after-eq-clause-found
returns-after-eq-clause-found c =
    let r = c.args.transcript.now in
    let s = initial_of c.args.start.now in
    elim c.if-eq.branch [
      | then-eq+then-not-are_whole w ↦ subst (λ f. IsFound c.args.profile r s f) (sym w.result-is) c.requires
      | else-eq w ↦ subst (λ f. IsFound c.args.profile r s f) (sym w.result-is) (subst (λ os. Passes c.args.profile r os s) c.deref.ensures.value
          (passes c.args.profile r c.deref.result.now s c.in-Yes.requests c.in-Yes.answered c.in-Yes.improper (rw c.in-Yes.is at c.in_ok-verdict_of.ensures)))
    ]
