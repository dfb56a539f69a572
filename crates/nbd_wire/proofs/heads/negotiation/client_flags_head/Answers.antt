use Rattle.nbd_wire.proofs.{Common.arith, NumberLemmas.AreBytes-from_places, HeadReadLemmas.{client_flags-reads, client_flags-none}}
use Rattle.nbd_wire.proofs.heads.negotiation.client_flags_head.Goals as goal

pub returns-then-bytes-ne-CLIENT_FLAGS : goal.returns-then-bytes-ne-CLIENT_FLAGS
returns-then-bytes-ne-CLIENT_FLAGS c =
    let bytes = c.args.bytes.now in
    client_flags-none bytes (λ l. c.if-bytes-ne-CLIENT_FLAGS.true l)

pub returns : goal.returns
returns c =
    let bytes = c.args.bytes.now in
    let b = AreBytes-from_places bytes (λ i. omega (arith, c.type_inv.bytes i)) in
    client_flags-reads _ bytes b c.if-bytes-ne-CLIENT_FLAGS.false c.u32_at.ensures
