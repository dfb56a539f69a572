use Rattle.nbd_judge.proofs.verdicts.UniqueLemmas.{one_wire_fault}
use Rattle.nbd_judge.proofs.laws.one_wire_fault.Goals as goal

pub returns : goal.returns
returns c = one_wire_fault
