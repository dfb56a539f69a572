use Rattle.nbd_wire.proofs.{Common.{arith, sym, ◌∙◌}, NumberLemmas.AreBytes-from_places, HeadReadLemmas.{extended_chunk-reads, extended_chunk-none}, heads.transmission.extended_chunk_head.Goals.{then-bytes-ne-EXTENDED_CHUNK-via-then-bytes-ne-EXTENDED_CHUNK, then-bytes-ne-EXTENDED_CHUNK-via-else-bytes-ne-EXTENDED_CHUNK+then-u32_at-ne-EXTENDED_CHUNK_MAGIC}}
use Rattle.nbd_wire.proofs.heads.transmission.extended_chunk_head.Goals as goal

pub returns-then-bytes-ne-EXTENDED_CHUNK : goal.returns-then-bytes-ne-EXTENDED_CHUNK
returns-then-bytes-ne-EXTENDED_CHUNK c =
    let bytes = c.args.bytes.now in
    elim c.then-bytes-ne-EXTENDED_CHUNK.branch [
      | then-bytes-ne-EXTENDED_CHUNK-via-then-bytes-ne-EXTENDED_CHUNK w ↦ extended_chunk-none bytes (λ l m0. w.if-bytes-ne-EXTENDED_CHUNK.true l)
      | then-bytes-ne-EXTENDED_CHUNK-via-else-bytes-ne-EXTENDED_CHUNK+then-u32_at-ne-EXTENDED_CHUNK_MAGIC w ↦ extended_chunk-none bytes (λ l m0. w.if-u32_at-ne-EXTENDED_CHUNK_MAGIC.true (w.u32_at.ensures ∙ m0))
    ]

pub returns : goal.returns
returns c =
    let bytes = c.args.bytes.now in
    let b = AreBytes-from_places bytes (λ i. omega (arith, c.type_inv.bytes i)) in
    extended_chunk-reads _ _ _ _ _ bytes b c.if-bytes-ne-EXTENDED_CHUNK.false (sym c.u32_at.ensures ∙ c.if-u32_at-ne-EXTENDED_CHUNK_MAGIC.false) c.u16_at.ensures c.u16_at-2.ensures c.u64_at-2.ensures c.u64_at.ensures c.u64_at-3.ensures
