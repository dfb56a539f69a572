use Rattle.nbd_capture.proofs.{Common.rules, FaultLemmas.only_entries}
use Rattle.nbd_capture.proofs.order.parse_order.Goals as goal

pub returns-clause-only : goal.returns-clause-only
returns-clause-only c = only_entries (λ found. found.items) c.args.text.now c.and.result (search rules) (search rules)
