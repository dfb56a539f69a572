use Rattle.nbd_wire.proofs.{Common.{None, Some, sym, ◌∙◌, arith, Context}, ListedReadLemmas.cut_behind, NumberLemmas.AreBytes-from_places, QueryLemmas.{context-long, context-reads, context-short}}
use Rattle.nbd_wire.proofs.option_payloads.context_of.Goals as goal

pub returns-then-bytes-lt4-clause-same : goal.returns-then-bytes-lt4-clause-same
returns-then-bytes-lt4-clause-same c = sym (context-short c.args.bytes.now c.if-bytes-lt4.true)

pub returns-then-bytes-lt4-clause-form : goal.returns-then-bytes-lt4-clause-form
returns-then-bytes-lt4-clause-form c =
    let bytes = c.args.bytes.now in
    context-reads {R = Context} (λ v. v) None bytes (AreBytes-from_places bytes (λ i. omega (arith, c.type_inv.bytes i))) (returns-then-bytes-lt4-clause-same c)

pub returns-clause-same : goal.returns-clause-same
returns-clause-same c =
    let bytes = c.args.bytes.now in
    (λ i. Some (record { id = c.u32_at.ensures i; name = cut_behind 4 bytes i })) ∙ sym (context-long bytes c.if-bytes-lt4.false)

pub returns-clause-form : goal.returns-clause-form
returns-clause-form c =
    let bytes = c.args.bytes.now in
    context-reads {R = Context} (λ v. v) (Some _) bytes (AreBytes-from_places bytes (λ i. omega (arith, c.type_inv.bytes i))) (returns-clause-same c)
