use Rattle.nbd_lines.proofs.{Common.{told, IsScriptLine}, DecisionLemmas.decide_line}
use Rattle.nbd_lines.proofs.laws.script_or_bad_line.Goals as goal

pub returns : goal.returns
returns c = told IsScriptLine decide_line
