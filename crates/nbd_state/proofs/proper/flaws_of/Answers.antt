use Rattle.nbd_state.proofs.Common.{◌≡◌, ◌∙◌, ap, refl, rules, exporting, is_known, operation_of_head}
use Rattle.nbd_state.proofs.FlawLemmas.{flawless, same_flaws}
use Rattle.nbd_state.specs.Flaws.{is_none}
use Rattle.nbd_state.proofs.proper.flaws_of.Goals as goal

pub returns-clause-flaws : goal.returns-clause-flaws
returns-clause-flaws c = λ payload contexts filter sizes replies asks.
    let known : c.is_known.result ≡ is_known (operation_of_head c.args.request.now payload contexts filter sizes replies) = c.is_known.ensures (operation_of_head c.args.request.now payload contexts filter sizes replies) refl asks.has_contexts_is in
    same_flaws _ _ _ _ _ _ _ (search rules) (search rules) (search rules) (search rules) (search rules) (search rules)

pub returns-clause-proper : goal.returns-clause-proper
returns-clause-proper c = λ payload contexts filter sizes replies asks.
    ap is_none (returns-clause-flaws c payload contexts filter sizes replies asks)
    ∙ flawless (exporting c.args.export) (operation_of_head c.args.request.now payload contexts filter sizes replies)
