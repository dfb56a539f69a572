use Rattle.nbd_capture.proofs.DigitLemmas.{even}
use Rattle.nbd_capture.proofs.contents_line.spell.Goals as goal

pub returns-then-digits-ne0 : goal.returns-then-digits-ne0
returns-then-digits-ne0 c = λ bytes d some. c.if-digits-ne0.true (even c.args.digits.now bytes d)
