use Rattle.nbd_wire.proofs.{Common.{sym, ◌∙◌}, ChunkReadLemmas.{hole-none, hole-whole}}
use Rattle.nbd_wire.proofs.chunk_payloads.hole_of.Goals as goal

pub returns-then-bytes-ne-HOLE_LENGTH : goal.returns-then-bytes-ne-HOLE_LENGTH
returns-then-bytes-ne-HOLE_LENGTH c = hole-none c.args.bytes.now (λ l s. c.if-bytes-ne-HOLE_LENGTH.true l)

pub returns-then-size-eq0 : goal.returns-then-size-eq0
returns-then-size-eq0 c = hole-none c.args.bytes.now (λ l s. s (sym (c.from-size.ensures ∙ c.u32_at.ensures) ∙ c.if-size-eq0.true))

pub returns : goal.returns
returns c = hole-whole c.args.bytes.now _ _ c.if-bytes-ne-HOLE_LENGTH.false (c.from-size.ensures ∙ c.u32_at.ensures) c.if-size-eq0.false c.u64_at.ensures
