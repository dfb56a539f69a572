use Rattle.nbd_lines.proofs.Common.{length, IsScriptLine, Progress}
use Rattle.nbd_lines.proofs.script.parse_script.Given as goal

abbrev pub invariant-loop-rest : goal.invariant-loop-rest
invariant-loop-rest l = Progress IsScriptLine l.text l.rest l.messages.items l.number

abbrev pub decreases-loop-rest : goal.decreases-loop-rest
decreases-loop-rest l = length l.rest
