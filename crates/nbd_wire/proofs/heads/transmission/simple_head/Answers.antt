use Rattle.nbd_wire.proofs.{Common.{arith, sym, ◌∙◌}, NumberLemmas.AreBytes-from_places, HeadReadLemmas.{simple-reads, simple-none}, heads.transmission.simple_head.Goals.{then-bytes-ne-SIMPLE-via-then-bytes-ne-SIMPLE, then-bytes-ne-SIMPLE-via-else-bytes-ne-SIMPLE+then-u32_at-ne-SIMPLE_MAGIC}}
use Rattle.nbd_wire.proofs.heads.transmission.simple_head.Goals as goal

pub returns-then-bytes-ne-SIMPLE : goal.returns-then-bytes-ne-SIMPLE
returns-then-bytes-ne-SIMPLE c =
    let bytes = c.args.bytes.now in
    elim c.then-bytes-ne-SIMPLE.branch [
      | then-bytes-ne-SIMPLE-via-then-bytes-ne-SIMPLE w ↦ simple-none bytes (λ l m0. w.if-bytes-ne-SIMPLE.true l)
      | then-bytes-ne-SIMPLE-via-else-bytes-ne-SIMPLE+then-u32_at-ne-SIMPLE_MAGIC w ↦ simple-none bytes (λ l m0. w.if-u32_at-ne-SIMPLE_MAGIC.true (w.u32_at.ensures ∙ m0))
    ]

pub returns : goal.returns
returns c =
    let bytes = c.args.bytes.now in
    let b = AreBytes-from_places bytes (λ i. omega (arith, c.type_inv.bytes i)) in
    simple-reads _ _ bytes b c.if-bytes-ne-SIMPLE.false (sym c.u32_at.ensures ∙ c.if-u32_at-ne-SIMPLE_MAGIC.false) c.u32_at-2.ensures c.u64_at.ensures
