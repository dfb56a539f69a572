use Rattle.nbd_wire.proofs.{Common.arith, InfoReadLemmas.{info-short, info-export, info-no_export, info-sizes, info-no_sizes, info-other, info-form}}
use Rattle.nbd_wire.proofs.option_payloads.info_of.Goals as goal

pub returns-then-bytes-lt2-clause-same : goal.returns-then-bytes-lt2-clause-same
returns-then-bytes-lt2-clause-same c = info-short _ c.if-bytes-lt2.true

pub returns-in-0-clause-same : goal.returns-in-0-clause-same
returns-in-0-clause-same c = info-export _ _ _ _ c.if-bytes-lt2.false c.u16_at.ensures c.in-0.is c.if-bytes-eq-EXPORT_LENGTH.true c.u64_at.ensures c.u16_at-in-0.ensures

pub returns-in-3-clause-same : goal.returns-in-3-clause-same
returns-in-3-clause-same c = info-sizes _ _ _ _ _ c.if-bytes-lt2.false c.u16_at.ensures c.in-3.is c.if-bytes-eq-BLOCK_SIZE_LENGTH.true c.u32_at.ensures c.u32_at-in-3.ensures c.u32_at-in-3-2.ensures

pub returns-in-0-2-clause-same : goal.returns-in-0-2-clause-same
returns-in-0-2-clause-same c = info-no_export _ _ c.if-bytes-lt2.false c.u16_at.ensures c.in-0.is c.if-bytes-eq-EXPORT_LENGTH.false

pub returns-in-0-2-2-clause-same : goal.returns-in-0-2-2-clause-same
returns-in-0-2-2-clause-same c = info-no_sizes _ _ c.if-bytes-lt2.false c.u16_at.ensures c.in-3.is c.if-bytes-eq-BLOCK_SIZE_LENGTH.false

pub returns-in_default-clause-same : goal.returns-in_default-clause-same
returns-in_default-clause-same c = info-other _ _ c.if-bytes-lt2.false c.u16_at.ensures (λ e. omega arith) (λ e. omega arith)

pub returns-then-bytes-lt2-clause-form : goal.returns-then-bytes-lt2-clause-form
returns-then-bytes-lt2-clause-form c = info-form _ (λ i. omega (arith, c.type_inv.bytes i)) _ (returns-then-bytes-lt2-clause-same c)

pub returns-in-0-clause-form : goal.returns-in-0-clause-form
returns-in-0-clause-form c = info-form _ (λ i. omega (arith, c.type_inv.bytes i)) _ (returns-in-0-clause-same c)

pub returns-in-3-clause-form : goal.returns-in-3-clause-form
returns-in-3-clause-form c = info-form _ (λ i. omega (arith, c.type_inv.bytes i)) _ (returns-in-3-clause-same c)

pub returns-in-0-2-clause-form : goal.returns-in-0-2-clause-form
returns-in-0-2-clause-form c = info-form _ (λ i. omega (arith, c.type_inv.bytes i)) _ (returns-in-0-2-clause-same c)

pub returns-in-0-2-2-clause-form : goal.returns-in-0-2-2-clause-form
returns-in-0-2-2-clause-form c = info-form _ (λ i. omega (arith, c.type_inv.bytes i)) _ (returns-in-0-2-2-clause-same c)

pub returns-in_default-clause-form : goal.returns-in_default-clause-form
returns-in_default-clause-form c = info-form _ (λ i. omega (arith, c.type_inv.bytes i)) _ (returns-in_default-clause-same c)
