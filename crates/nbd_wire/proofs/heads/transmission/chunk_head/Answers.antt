use Rattle.nbd_wire.proofs.{Common.{arith, sym, ◌∙◌}, NumberLemmas.AreBytes-from_places, HeadReadLemmas.{chunk-reads, chunk-none}, heads.transmission.chunk_head.Goals.{then-bytes-ne-CHUNK-via-then-bytes-ne-CHUNK, then-bytes-ne-CHUNK-via-else-bytes-ne-CHUNK+then-u32_at-ne-CHUNK_MAGIC}}
use Rattle.nbd_wire.proofs.heads.transmission.chunk_head.Goals as goal

pub returns-then-bytes-ne-CHUNK : goal.returns-then-bytes-ne-CHUNK
returns-then-bytes-ne-CHUNK c =
    let bytes = c.args.bytes.now in
    elim c.then-bytes-ne-CHUNK.branch [
      | then-bytes-ne-CHUNK-via-then-bytes-ne-CHUNK w ↦ chunk-none bytes (λ l m0. w.if-bytes-ne-CHUNK.true l)
      | then-bytes-ne-CHUNK-via-else-bytes-ne-CHUNK+then-u32_at-ne-CHUNK_MAGIC w ↦ chunk-none bytes (λ l m0. w.if-u32_at-ne-CHUNK_MAGIC.true (w.u32_at.ensures ∙ m0))
    ]

pub returns : goal.returns
returns c =
    let bytes = c.args.bytes.now in
    let b = AreBytes-from_places bytes (λ i. omega (arith, c.type_inv.bytes i)) in
    chunk-reads _ _ _ _ bytes b c.if-bytes-ne-CHUNK.false (sym c.u32_at.ensures ∙ c.if-u32_at-ne-CHUNK_MAGIC.false) c.u16_at.ensures c.u16_at-2.ensures c.u64_at.ensures (c.from.ensures ∙ c.u32_at-2.ensures)
