use Rattle.nbd_wire.proofs.{ChunkReadLemmas.{data-short, data-whole}, ListedReadLemmas.cut_behind}
use Rattle.nbd_wire.proofs.chunk_payloads.data_of.Goals as goal

pub returns-then-bytes-le-DATA : goal.returns-then-bytes-le-DATA
returns-then-bytes-le-DATA c = data-short c.args.bytes.now c.if-bytes-le-DATA.true

pub returns : goal.returns
returns c = data-whole c.args.bytes.now _ _ c.if-bytes-le-DATA.false c.u64_at.ensures (cut_behind 8 c.args.bytes.now)
