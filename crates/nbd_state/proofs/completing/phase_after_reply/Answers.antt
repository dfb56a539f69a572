use Rattle.nbd_state.proofs.{Common.{◌∙◌, sym}, PhaseLemmas.{behind_abort, behind_none, behind_option}}
use Rattle.nbd_state.proofs.completing.phase_after_reply.Goals as goal

pub returns-in-Aborting : goal.returns-in-Aborting
returns-in-Aborting c = λ p option e. behind_abort p option c.args.kind c.args.payload.now (sym c.in-Aborting.is ∙ e)

pub returns-in-Answering : goal.returns-in-Answering
returns-in-Answering c = λ p option e. behind_option c.in-Answering.chosen p option c.args.kind c.args.payload.now c.after_reply.result (sym c.in-Answering.is ∙ e) c.after_reply.ensures

pub returns-in_default : goal.returns-in_default
returns-in_default c = λ p option e. behind_none c.args.phase p option c.args.kind c.args.payload.now c.in_default.not-Aborting c.in_default.not-Answering e
