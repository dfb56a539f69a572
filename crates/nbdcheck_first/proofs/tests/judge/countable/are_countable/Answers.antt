use Rattle.std.proofs.Common.{arith}
use Rattle.nbd_judge.proofs.verdicts.ChunkLemmas.{grown_by, piece_fits}
use Rattle.nbdcheck_first.proofs.tests.judge.countable.are_countable.Goals as goal

pub returns-then-len-left : goal.returns-then-len-left
returns-then-len-left c =
    let fits = piece_fits c.args.chunks.now c.loop-bytes.bytes-index c.loop-bytes-item.result c.loop-bytes-test.true c.loop-bytes-item.is in
    ((λ e. absurd (cc)), (λ l. absurd (omega arith)))

pub loop-bytes-preserved : goal.loop-bytes-preserved
loop-bytes-preserved c =
    let grown = grown_by c.args.chunks.now c.loop-bytes.bytes-index c.loop-bytes-item.result c.loop-bytes-test.true c.loop-bytes-item.is in
    omega arith
