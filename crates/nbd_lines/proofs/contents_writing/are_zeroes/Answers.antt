use Rattle.nbd_lines.proofs.PieceTextLemmas.{not_zeroes}
use Rattle.nbd_lines.proofs.contents_writing.are_zeroes.Goals as goal

pub returns-then-byte-ne0 : goal.returns-then-byte-ne0
returns-then-byte-ne0 c = not_zeroes c.args.bytes.now c.loop-byte.byte-index c.loop-byte-test.true c.loop-byte.invariant c.if-byte-ne0.true
