use Rattle.nbd_wire.proofs.{Common.{None, arith, sym, ◌∙◌, ap, piece_of, content_of}, ChunkReadLemmas.{content-none, content-form}}
use Rattle.nbd_wire.proofs.chunk_payloads.content_of.Goals as goal

pub returns-in_default-clause-same : goal.returns-in_default-clause-same
returns-in_default-clause-same c = content-none _ _ (λ e. omega arith) (λ e. omega arith)

pub returns-in_default-clause-form : goal.returns-in_default-clause-form
returns-in_default-clause-form c =
    content-form piece_of c.args.kind c.args.bytes.now (λ i. omega (arith, c.type_inv.bytes i)) None (returns-in_default-clause-same c)

pub returns-in-1-clause-form : goal.returns-in-1-clause-form
returns-in-1-clause-form c =
    content-form piece_of c.args.kind c.args.bytes.now (λ i. omega (arith, c.type_inv.bytes i)) c.data_of.result
    (c.data_of.ensures ∙ ap (λ k. content_of k c.args.bytes.now) (sym c.in-1.is))

pub returns-in-2-clause-form : goal.returns-in-2-clause-form
returns-in-2-clause-form c =
    content-form piece_of c.args.kind c.args.bytes.now (λ i. omega (arith, c.type_inv.bytes i)) c.hole_of.result
    (c.hole_of.ensures ∙ ap (λ k. content_of k c.args.bytes.now) (sym c.in-2.is))
