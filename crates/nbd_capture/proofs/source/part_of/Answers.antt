use Rattle.nbd_capture.proofs.Common.{refl}
use Rattle.nbd_capture.proofs.source.part_of.Goals as goal

pub returns-in-Some-clause-part : goal.returns-in-Some-clause-part
returns-in-Some-clause-part c = (c.in-Some.field-0-1.now, c.in-Some.ensures.1, c.in-Some.ensures.0, refl)

pub returns-in-None-clause-part : goal.returns-in-None-clause-part
returns-in-None-clause-part c = (refl, c.in-None.ensures, refl)
