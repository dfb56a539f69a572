use Rattle.nbd_capture.proofs.ReadingStepLemmas.{reads-append}
use Rattle.nbd_capture.proofs.laws.steps_are_joined.Goals as goal

pub returns : goal.returns
returns c = reads-append
