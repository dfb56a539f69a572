use Rattle.nbd_wire.proofs.{Common.{true, ◌≡◌, ◌∷◌, ◌∙◌, arith, sym, extents_of, number_at}, ListedReadLemmas.cut_behind, StatusLemmas.{wide-first, wide-none}}
use Rattle.nbd_wire.proofs.chunk_payloads.first_wide.Goals as goal

pub returns-then-descriptors-lt-WIDE_DESCRIPTOR_LENGTH : goal.returns-then-descriptors-lt-WIDE_DESCRIPTOR_LENGTH
returns-then-descriptors-lt-WIDE_DESCRIPTOR_LENGTH c = wide-none c.args.descriptors.now (omega (arith, c.if-descriptors-lt-WIDE_DESCRIPTOR_LENGTH.true))

pub returns : goal.returns
returns c =
    let bytes = c.args.descriptors.now in
    let size : c.u64_at.result ≡ number_at 0 8 bytes = c.u64_at.ensures in
    let flags : c.u64_at-2.result ≡ number_at 8 8 bytes = c.u64_at-2.ensures in
    wide-first bytes (omega (arith, c.if-descriptors-lt-WIDE_DESCRIPTOR_LENGTH.false))
    ∙ (λ i. record { length = sym size i; flags = sym flags i } ∷ extents_of true (sym (cut_behind 16 bytes) i))
