use Rattle.nbd_order.proofs.Common.{sym, ◌∙◌, ap, report_of_request, effect, option_map}
use Rattle.nbd_order.proofs.offsets.is_change_at.Goals as goal

pub returns-in-Some : goal.returns-in-Some
returns-in-Some c = λ t. (effect (report_of_request c.in-Some.one.now), (ap (option_map effect) (sym c.in-Some.ensures), sym c.touches.ensures ∙ t))
