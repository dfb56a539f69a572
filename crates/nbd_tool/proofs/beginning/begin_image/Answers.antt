use Rattle.nbd_tool.proofs.{Common.{Ok, ap}, BeginningLemmas.longer_read}
use Rattle.nbd_tool.proofs.beginning.begin_image.Goals as goal

pub returns-in-Longer-clause-read : goal.returns-in-Longer-clause-read
returns-in-Longer-clause-read g c = longer_read (g.I.Read.remaining c.args.image.now) c.args.room c.in-Longer.count
    (rw c.in-Longer.is at c.in_ok-bytes.ensures.read) (c.in_ok-bytes.ensures.longer c.in-Longer.count (ap Ok c.in-Longer.is))
