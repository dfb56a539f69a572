use Rattle.nbd_wire.proofs.{Common.arith, NumberLemmas.AreBytes-from_places, ListedReadLemmas.{cut_behind, listed-none, listed-reads, listed-short, listed-tells}}
use Rattle.nbd_wire.proofs.option_payloads.listed_of.Goals as goal

pub returns-then-bytes-lt4-clause-form : goal.returns-then-bytes-lt4-clause-form
returns-then-bytes-lt4-clause-form c = listed-none c.args.bytes.now c.if-bytes-lt4.true

pub returns-clause-form : goal.returns-clause-form
returns-clause-form c =
    let bytes = c.args.bytes.now in
    listed-reads _ _ _ bytes _ (AreBytes-from_places bytes (λ i. omega (arith, c.type_inv.bytes i))) c.if-bytes-lt4.false c.u32_at-length.ensures (cut_behind 4 bytes) c.split_at_checked.ensures.cases

pub returns-clause-same : goal.returns-clause-same
returns-clause-same c =
    let bytes = c.args.bytes.now in
    listed-tells _ _ bytes (AreBytes-from_places bytes (λ i. omega (arith, c.type_inv.bytes i))) (returns-clause-form c)

pub returns-then-bytes-lt4-clause-same : goal.returns-then-bytes-lt4-clause-same
returns-then-bytes-lt4-clause-same c = listed-short c.args.bytes.now c.if-bytes-lt4.true
