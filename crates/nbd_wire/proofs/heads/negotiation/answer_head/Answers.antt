use Rattle.nbd_wire.proofs.{Common.{arith, sym, ◌∙◌}, NumberLemmas.AreBytes-from_places, HeadReadLemmas.{answer-reads, answer-none}, heads.negotiation.answer_head.Goals.{then-bytes-ne-ANSWER-via-then-bytes-ne-ANSWER, then-bytes-ne-ANSWER-via-else-bytes-ne-ANSWER+then-u64_at-ne-ANSWER_MAGIC}}
use Rattle.nbd_wire.proofs.heads.negotiation.answer_head.Goals as goal

pub returns-then-bytes-ne-ANSWER : goal.returns-then-bytes-ne-ANSWER
returns-then-bytes-ne-ANSWER c =
    let bytes = c.args.bytes.now in
    elim c.then-bytes-ne-ANSWER.branch [
      | then-bytes-ne-ANSWER-via-then-bytes-ne-ANSWER w ↦ answer-none bytes (λ l m0. w.if-bytes-ne-ANSWER.true l)
      | then-bytes-ne-ANSWER-via-else-bytes-ne-ANSWER+then-u64_at-ne-ANSWER_MAGIC w ↦ answer-none bytes (λ l m0. w.if-u64_at-ne-ANSWER_MAGIC.true (w.u64_at.ensures ∙ m0))
    ]

pub returns : goal.returns
returns c =
    let bytes = c.args.bytes.now in
    let b = AreBytes-from_places bytes (λ i. omega (arith, c.type_inv.bytes i)) in
    answer-reads _ _ _ bytes b c.if-bytes-ne-ANSWER.false (sym c.u64_at.ensures ∙ c.if-u64_at-ne-ANSWER_MAGIC.false) c.u32_at.ensures c.u32_at-2.ensures c.u32_at-3.ensures
