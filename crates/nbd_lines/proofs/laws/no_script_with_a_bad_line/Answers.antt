use Rattle.nbd_lines.proofs.Common.{no_reading, IsScriptLine}
use Rattle.nbd_lines.proofs.laws.no_script_with_a_bad_line.Goals as goal

pub returns : goal.returns
returns c = no_reading IsScriptLine
