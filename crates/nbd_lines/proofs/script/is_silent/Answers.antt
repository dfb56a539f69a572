use Rattle.nbd_lines.proofs.ScriptLineLemmas.{silent_hash, silent_nil, silent_ok}
use Rattle.nbd_lines.proofs.script.is_silent.Goals as goal

pub returns-in-empty : goal.returns-in-empty
returns-in-empty c = silent_nil c.args.line.now c.in-empty.len_below

pub returns-then-first-eq35 : goal.returns-then-first-eq35
returns-then-first-eq35 c = silent_hash c.args.line.now c.in-len1-up.len_at_least c.if-first-eq35.true

pub returns-else-first-eq35 : goal.returns-else-first-eq35
returns-else-first-eq35 c = silent_ok c.args.line.now c.eq.result c.in-len1-up.len_at_least c.if-first-eq35.false (rw c.as_slice.ensures at c.eq.ensures)
