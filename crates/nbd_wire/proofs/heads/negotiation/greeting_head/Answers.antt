use Rattle.nbd_wire.proofs.{Common.{arith, sym, ◌∙◌}, NumberLemmas.AreBytes-from_places, HeadReadLemmas.{greeting-reads, greeting-none}}
use Rattle.nbd_wire.proofs.heads.negotiation.greeting_head.Goals.{then-bytes-ne-GREETING-via-then-bytes-ne-GREETING, then-bytes-ne-GREETING-via-else-bytes-ne-GREETING+then-u64_at-ne-GREETING_MAGIC, then-bytes-ne-GREETING-via-else-bytes-ne-GREETING+else-u64_at-ne-GREETING_MAGIC+then-u64_at-ne-OPTION_MAGIC}
use Rattle.nbd_wire.proofs.heads.negotiation.greeting_head.Goals as goal

pub returns-then-bytes-ne-GREETING : goal.returns-then-bytes-ne-GREETING
returns-then-bytes-ne-GREETING c =
    let bytes = c.args.bytes.now in
    elim c.then-bytes-ne-GREETING.branch [
      | then-bytes-ne-GREETING-via-then-bytes-ne-GREETING w ↦ greeting-none bytes (λ l m0 m1. w.if-bytes-ne-GREETING.true l)
      | then-bytes-ne-GREETING-via-else-bytes-ne-GREETING+then-u64_at-ne-GREETING_MAGIC w ↦ greeting-none bytes (λ l m0 m1. w.if-u64_at-ne-GREETING_MAGIC.true (w.u64_at.ensures ∙ m0))
      | then-bytes-ne-GREETING-via-else-bytes-ne-GREETING+else-u64_at-ne-GREETING_MAGIC+then-u64_at-ne-OPTION_MAGIC w ↦ greeting-none bytes (λ l m0 m1. w.if-u64_at-ne-OPTION_MAGIC.true (w.u64_at-else-u64_at-ne-GREETING_MAGIC.ensures ∙ m1))
    ]

pub returns : goal.returns
returns c =
    let bytes = c.args.bytes.now in
    let b = AreBytes-from_places bytes (λ i. omega (arith, c.type_inv.bytes i)) in
    greeting-reads _ bytes b c.if-bytes-ne-GREETING.false (sym c.u64_at.ensures ∙ c.if-u64_at-ne-GREETING_MAGIC.false) (sym c.u64_at-else-u64_at-ne-GREETING_MAGIC.ensures ∙ c.if-u64_at-ne-OPTION_MAGIC.false) c.u16_at.ensures
