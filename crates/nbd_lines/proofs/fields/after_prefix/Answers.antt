use Rattle.nbd_lines.proofs.WordLemmas.{strip_is_prefix}
use Rattle.nbd_lines.proofs.fields.after_prefix.Goals as goal

pub returns : goal.returns
returns c = strip_is_prefix c.args.prefix.now c.args.text.now c.strip_prefix.result c.strip_prefix.ensures.cases
