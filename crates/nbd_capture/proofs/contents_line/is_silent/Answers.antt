use Rattle.nbd_capture.proofs.ContentsLineLemmas.{silent_first, silent_nil}
use Rattle.nbd_capture.proofs.contents_line.is_silent.Goals as goal

pub returns-in-empty : goal.returns-in-empty
returns-in-empty c = silent_nil c.args.line.now c.in-empty.len_below

pub returns-in-len1-up : goal.returns-in-len1-up
returns-in-len1-up c = silent_first c.args.line.now c.in-len1-up.len_at_least
