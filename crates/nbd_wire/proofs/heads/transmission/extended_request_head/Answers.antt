use Rattle.nbd_wire.proofs.{Common.{arith, sym, ◌∙◌}, NumberLemmas.AreBytes-from_places, HeadReadLemmas.{extended_request-reads, extended_request-none}, heads.transmission.extended_request_head.Goals.{then-bytes-ne-EXTENDED_REQUEST-via-then-bytes-ne-EXTENDED_REQUEST, then-bytes-ne-EXTENDED_REQUEST-via-else-bytes-ne-EXTENDED_REQUEST+then-u32_at-ne-EXTENDED_REQUEST_MAGIC}}
use Rattle.nbd_wire.proofs.heads.transmission.extended_request_head.Goals as goal

pub returns-then-bytes-ne-EXTENDED_REQUEST : goal.returns-then-bytes-ne-EXTENDED_REQUEST
returns-then-bytes-ne-EXTENDED_REQUEST c =
    let bytes = c.args.bytes.now in
    elim c.then-bytes-ne-EXTENDED_REQUEST.branch [
      | then-bytes-ne-EXTENDED_REQUEST-via-then-bytes-ne-EXTENDED_REQUEST w ↦ extended_request-none bytes (λ l m0. w.if-bytes-ne-EXTENDED_REQUEST.true l)
      | then-bytes-ne-EXTENDED_REQUEST-via-else-bytes-ne-EXTENDED_REQUEST+then-u32_at-ne-EXTENDED_REQUEST_MAGIC w ↦ extended_request-none bytes (λ l m0. w.if-u32_at-ne-EXTENDED_REQUEST_MAGIC.true (w.u32_at.ensures ∙ m0))
    ]

pub returns : goal.returns
returns c =
    let bytes = c.args.bytes.now in
    let b = AreBytes-from_places bytes (λ i. omega (arith, c.type_inv.bytes i)) in
    extended_request-reads _ _ _ _ _ bytes b c.if-bytes-ne-EXTENDED_REQUEST.false (sym c.u32_at.ensures ∙ c.if-u32_at-ne-EXTENDED_REQUEST_MAGIC.false) c.u16_at.ensures c.u16_at-2.ensures c.u64_at.ensures c.u64_at-2.ensures c.u64_at-3.ensures
