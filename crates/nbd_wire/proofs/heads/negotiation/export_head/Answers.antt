use Rattle.nbd_wire.proofs.{Common.arith, NumberLemmas.AreBytes-from_places, HeadReadLemmas.{export-reads, export-none}}
use Rattle.nbd_wire.proofs.heads.negotiation.export_head.Goals as goal

pub returns-then-bytes-ne-EXPORT : goal.returns-then-bytes-ne-EXPORT
returns-then-bytes-ne-EXPORT c = export-none c.args.bytes.now (λ l. c.if-bytes-ne-EXPORT.true l)

pub returns : goal.returns
returns c =
    let bytes = c.args.bytes.now in
    let b = AreBytes-from_places bytes (λ i. omega (arith, c.type_inv.bytes i)) in
    export-reads _ _ bytes b c.if-bytes-ne-EXPORT.false c.u64_at.ensures c.u16_at.ensures
