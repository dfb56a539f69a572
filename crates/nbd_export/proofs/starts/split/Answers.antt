use Rattle.nbd_export.proofs.{Common.{sym, ◌∙◌, kind_from}, KindLemmas.kind_at-begun}
use Rattle.nbd_export.proofs.starts.split.Goals as goal

pub returns-then-contains_key-clause-here : goal.returns-then-contains_key-clause-here
returns-then-contains_key-clause-here c = sym (kind_at-begun (kind_from c.args.starts.now) c.args.at (sym c.contains_key.ensures ∙ c.if-contains_key.true))
