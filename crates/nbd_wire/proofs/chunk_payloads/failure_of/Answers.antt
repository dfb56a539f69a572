use Rattle.nbd_wire.proofs.{Common.{◌≡◌, ◌+◌, ◌≤◌, ℕ, length, sym, ◌∙◌, ap, arith, number_at}, ChunkReadLemmas.{failure-none, failure-plain, failure-placed, failure-form}}
use Rattle.nbd_wire.proofs.chunk_payloads.failure_of.Goals as goal

pub returns-then-bytes-lt-MESSAGE-clause-same : goal.returns-then-bytes-lt-MESSAGE-clause-same
returns-then-bytes-lt-MESSAGE-clause-same c = failure-none _ _ (λ e k l. omega arith) (λ e k l. omega arith)

pub returns-then-error-eq0-clause-same : goal.returns-then-error-eq0-clause-same
returns-then-error-eq0-clause-same c =
    let zero : number_at 0 4 c.args.bytes.now ≡ 0 = sym c.u32_at-error.ensures ∙ c.if-error-eq0.true in
    failure-none _ _ (λ e k l. e zero) (λ e k l. e zero)

pub returns-then-bytes-end-clause-same : goal.returns-then-bytes-end-clause-same
returns-then-bytes-end-clause-same c =
    failure-none _ _ (λ e k l. omega (arith, l, c.from-end.ensures, c.u16_at.ensures)) (λ e k l. omega (arith, k, c.in-32769.is))

pub returns-then-bytes-end-2-clause-same : goal.returns-then-bytes-end-2-clause-same
returns-then-bytes-end-2-clause-same c =
    failure-none _ _ (λ e k l. omega (arith, k, c.in-32770.is)) (λ e k l. omega (arith, l, c.from-end.ensures, c.u16_at.ensures))

pub returns-else-bytes-end-clause-same : goal.returns-else-bytes-end-clause-same
returns-else-bytes-end-clause-same c =
    let fits : 6 + number_at 4 2 c.args.bytes.now ≤ length c.args.bytes.now = omega (arith, c.from-end.ensures, c.u16_at.ensures) in
    failure-plain c.args.kind _ _ c.in-32769.is c.u32_at-error.ensures c.if-error-eq0.false fits

pub returns-else-bytes-end-2-clause-same : goal.returns-else-bytes-end-2-clause-same
returns-else-bytes-end-2-clause-same c =
    let fits : 14 + number_at 4 2 c.args.bytes.now ≤ length c.args.bytes.now = omega (arith, c.from-end.ensures, c.u16_at.ensures) in
    let place : c.from-end.result ≡ number_at 4 2 c.args.bytes.now = c.from-end.ensures ∙ c.u16_at.ensures in
    failure-placed c.args.kind _ _ _ c.in-32770.is c.u32_at-error.ensures c.if-error-eq0.false fits
    (c.u64_at.ensures ∙ ap (λ (k : ℕ). number_at (6 + k) 8 c.args.bytes.now) place)

pub returns-in_default-clause-same : goal.returns-in_default-clause-same
returns-in_default-clause-same c = failure-none _ _ (λ e k l. omega arith) (λ e k l. omega arith)

pub returns-then-bytes-lt-MESSAGE-clause-form : goal.returns-then-bytes-lt-MESSAGE-clause-form
returns-then-bytes-lt-MESSAGE-clause-form c = failure-form _ _ (λ i. omega (arith, c.type_inv.bytes i)) _ (returns-then-bytes-lt-MESSAGE-clause-same c)

pub returns-then-error-eq0-clause-form : goal.returns-then-error-eq0-clause-form
returns-then-error-eq0-clause-form c = failure-form _ _ (λ i. omega (arith, c.type_inv.bytes i)) _ (returns-then-error-eq0-clause-same c)

pub returns-then-bytes-end-clause-form : goal.returns-then-bytes-end-clause-form
returns-then-bytes-end-clause-form c = failure-form _ _ (λ i. omega (arith, c.type_inv.bytes i)) _ (returns-then-bytes-end-clause-same c)

pub returns-then-bytes-end-2-clause-form : goal.returns-then-bytes-end-2-clause-form
returns-then-bytes-end-2-clause-form c = failure-form _ _ (λ i. omega (arith, c.type_inv.bytes i)) _ (returns-then-bytes-end-2-clause-same c)

pub returns-else-bytes-end-clause-form : goal.returns-else-bytes-end-clause-form
returns-else-bytes-end-clause-form c = failure-form _ _ (λ i. omega (arith, c.type_inv.bytes i)) _ (returns-else-bytes-end-clause-same c)

pub returns-else-bytes-end-2-clause-form : goal.returns-else-bytes-end-2-clause-form
returns-else-bytes-end-2-clause-form c = failure-form _ _ (λ i. omega (arith, c.type_inv.bytes i)) _ (returns-else-bytes-end-2-clause-same c)

pub returns-in_default-clause-form : goal.returns-in_default-clause-form
returns-in_default-clause-form c = failure-form _ _ (λ i. omega (arith, c.type_inv.bytes i)) _ (returns-in_default-clause-same c)
