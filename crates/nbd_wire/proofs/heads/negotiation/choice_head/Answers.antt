use Rattle.nbd_wire.proofs.{Common.{arith, sym, ◌∙◌}, NumberLemmas.AreBytes-from_places, HeadReadLemmas.{choice-reads, choice-none}, heads.negotiation.choice_head.Goals.{then-bytes-ne-CHOICE-via-then-bytes-ne-CHOICE, then-bytes-ne-CHOICE-via-else-bytes-ne-CHOICE+then-u64_at-ne-OPTION_MAGIC}}
use Rattle.nbd_wire.proofs.heads.negotiation.choice_head.Goals as goal

pub returns-then-bytes-ne-CHOICE : goal.returns-then-bytes-ne-CHOICE
returns-then-bytes-ne-CHOICE c =
    let bytes = c.args.bytes.now in
    elim c.then-bytes-ne-CHOICE.branch [
      | then-bytes-ne-CHOICE-via-then-bytes-ne-CHOICE w ↦ choice-none bytes (λ l m0. w.if-bytes-ne-CHOICE.true l)
      | then-bytes-ne-CHOICE-via-else-bytes-ne-CHOICE+then-u64_at-ne-OPTION_MAGIC w ↦ choice-none bytes (λ l m0. w.if-u64_at-ne-OPTION_MAGIC.true (w.u64_at.ensures ∙ m0))
    ]

pub returns : goal.returns
returns c =
    let bytes = c.args.bytes.now in
    let b = AreBytes-from_places bytes (λ i. omega (arith, c.type_inv.bytes i)) in
    choice-reads _ _ bytes b c.if-bytes-ne-CHOICE.false (sym c.u64_at.ensures ∙ c.if-u64_at-ne-OPTION_MAGIC.false) c.u32_at.ensures c.u32_at-2.ensures
