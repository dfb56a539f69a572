use Rattle.nbd_lines.proofs.{Common.{one_reading, IsScriptLine}, ScriptLineLemmas.one_saying}
use Rattle.nbd_lines.proofs.laws.one_script_reading.Goals as goal

pub returns : goal.returns
returns c = one_reading IsScriptLine one_saying
