use Rattle.nbd_wire.proofs.{Common.{false, ◌≡◌, ◌∷◌, ◌∙◌, arith, sym, extents_of, number_at}, ListedReadLemmas.cut_behind, StatusLemmas.{extents-first, extents-none}}
use Rattle.nbd_wire.proofs.chunk_payloads.first_short.Goals as goal

pub returns-then-descriptors-lt-DESCRIPTOR_LENGTH : goal.returns-then-descriptors-lt-DESCRIPTOR_LENGTH
returns-then-descriptors-lt-DESCRIPTOR_LENGTH c = extents-none c.args.descriptors.now (omega (arith, c.if-descriptors-lt-DESCRIPTOR_LENGTH.true))

pub returns : goal.returns
returns c =
    let bytes = c.args.descriptors.now in
    let size : c.from.result ≡ number_at 0 4 bytes = c.from.ensures ∙ c.u32_at.ensures in
    let flags : c.from-2.result ≡ number_at 4 4 bytes = c.from-2.ensures ∙ c.u32_at-2.ensures in
    extents-first bytes (omega (arith, c.if-descriptors-lt-DESCRIPTOR_LENGTH.false))
    ∙ (λ i. record { length = sym size i; flags = sym flags i } ∷ extents_of false (sym (cut_behind 8 bytes) i))
