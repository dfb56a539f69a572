use Rattle.nbd_wire.proofs.{Common.{arith, sym, ◌∙◌}, NumberLemmas.AreBytes-from_places, HeadReadLemmas.{request-reads, request-none}, heads.transmission.request_head.Goals.{then-bytes-ne-REQUEST-via-then-bytes-ne-REQUEST, then-bytes-ne-REQUEST-via-else-bytes-ne-REQUEST+then-u32_at-ne-REQUEST_MAGIC}}
use Rattle.nbd_wire.proofs.heads.transmission.request_head.Goals as goal

pub returns-then-bytes-ne-REQUEST : goal.returns-then-bytes-ne-REQUEST
returns-then-bytes-ne-REQUEST c =
    let bytes = c.args.bytes.now in
    elim c.then-bytes-ne-REQUEST.branch [
      | then-bytes-ne-REQUEST-via-then-bytes-ne-REQUEST w ↦ request-none bytes (λ l m0. w.if-bytes-ne-REQUEST.true l)
      | then-bytes-ne-REQUEST-via-else-bytes-ne-REQUEST+then-u32_at-ne-REQUEST_MAGIC w ↦ request-none bytes (λ l m0. w.if-u32_at-ne-REQUEST_MAGIC.true (w.u32_at.ensures ∙ m0))
    ]

pub returns : goal.returns
returns c =
    let bytes = c.args.bytes.now in
    let b = AreBytes-from_places bytes (λ i. omega (arith, c.type_inv.bytes i)) in
    request-reads _ _ _ _ _ bytes b c.if-bytes-ne-REQUEST.false (sym c.u32_at.ensures ∙ c.if-u32_at-ne-REQUEST_MAGIC.false) c.u16_at.ensures c.u16_at-2.ensures c.u64_at.ensures c.u64_at-2.ensures (c.from.ensures ∙ c.u32_at-2.ensures)
