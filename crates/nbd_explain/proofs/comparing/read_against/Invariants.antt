-- So many bytes were read and compared.
use Rattle.nbd_explain.proofs.{Common.{◌≡◌, ◌+◌, ◌-◌, length}, ComparingLemmas.HasCompared}
use Rattle.nbd_files.specs.declared.input.TheConstants.{PORTION}
use Rattle.nbd_explain.specs.declared.comparing.TheConstants.{MOST}
use Rattle.nbd_explain.proofs.comparing.read_against.Given as goal

abbrev pub invariant-loop-count : goal.invariant-loop-count
invariant-loop-count g l = record {
  read : HasCompared (g.A.Read.remaining l.initial.image) (g.A.Read.remaining l.image) l.contents l.count l.first;
  portion : length l.portion ≡ PORTION;
}

abbrev pub decreases-loop-count : goal.decreases-loop-count
decreases-loop-count g l = MOST + 1 - l.count
