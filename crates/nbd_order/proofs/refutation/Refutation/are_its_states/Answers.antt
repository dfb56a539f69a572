use Rattle.nbd_order.proofs.{Common.{◌≡◌, sym, ◌∙◌, true, false}, refutation.Refutation.are_its_states.Goals.{then-begins, else-begins}}
use Rattle.nbd_order.proofs.refutation.Refutation.are_its_states.Goals as goal

pub returns-then-steps-clause-stepping : goal.returns-then-steps-clause-stepping
returns-then-steps-clause-stepping c = λ t. elim c.if-begins.branch [
  | then-begins w ↦ w.steps.ensures (sym w.value-is ∙ c.if-steps.true)
  | else-begins w ↦ absurd (let q : false ≡ true = sym w.if-begins.false ∙ sym w.value-is ∙ c.if-steps.true in (cc))
]
