use Rattle.nbd_state.proofs.Common.{◌≡◌, ◌∙◌, [], ap, if◌then◌else◌, rules, subst, sym, true, are_settled, in_force, TellsThese}
use Rattle.nbd_state.proofs.state.State.are_told.Goals as goal

pub returns-else-not-self : goal.returns-else-not-self
returns-else-not-self c = λ core settled shows tells.
    let telling = c.args.exchange.now.asked.pieces.told in
    let brings : core.brings_contexts ≡ true = search rules in
    let there : core.selection.contexts ≡ in_force core = ap (λ b. if b then core.selection.contexts else []) (sym brings) in
    c.are_told.ensures core.selection settled telling shows.selection_is c.many.ensures.told (subst (λ cs. TellsThese settled cs telling c.args.id) (sym there) tells) ∙ ap (λ cs. are_settled settled cs) there
