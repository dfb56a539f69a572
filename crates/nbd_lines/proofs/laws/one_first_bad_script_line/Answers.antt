use Rattle.nbd_lines.proofs.Common.{one_first_bad, IsScriptLine}
use Rattle.nbd_lines.proofs.laws.one_first_bad_script_line.Goals as goal

pub returns : goal.returns
returns c = one_first_bad IsScriptLine
