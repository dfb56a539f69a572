use Rattle.nbd_explain.proofs.{Common.{Ok, refl}, OrderingLemmas.told_found}
use Rattle.nbd_explain.proofs.ordering.told_of_report.Goals as goal

pub returns : goal.returns
returns c =
    told_found c.args.profile c.args.start c.args.scope.wanted (Ok c.args.transcript.now) c.args.transcript.now c.in_ok-found.found c.ordered_as.result c.in_ok-text.text.bytes.items
    refl c.in_ok-found.ensures.found c.in_ok-found.ensures.wanted c.in_ok-found.ensures.says c.ordered_as.ensures c.in_ok-text.ensures
