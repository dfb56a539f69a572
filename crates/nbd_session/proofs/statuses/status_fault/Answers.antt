use Rattle.nbd_session.proofs.{Common.{not-false, not-true, ◌==◌, ◌∙◌, ap, arith, length, sym, status_kind, total, chunk_with, chunk_ends, option_to_list, Status, has, Operation, has_failed, is_proper, pieces, extents_of, with_reply, is_settled, done_by, finish_by, told_with}, judge.ChunkFaultLemmas.{lacks, malformed_status, right_status, status_is, unknown_status, wrong_status}}
use Rattle.nbd_wire.specs.declared.chunks.TheConstants as chunks
use Rattle.nbd_session.proofs.statuses.status_fault.Goals as goal

pub returns-then-not-has_contexts : goal.returns-then-not-has_contexts
returns-then-not-has_contexts c = grind (arith, unknown_status, not-false)

pub returns-in_default : goal.returns-in_default
returns-in_default c = grind (arith, malformed_status)

pub returns-then-not-fits_status : goal.returns-then-not-fits_status
returns-then-not-fits_status c = λ core export e at cookie s q shown u is.
    let status : Status = record { id = c.in-Some.id; extents = extents_of c.args.extended c.in-Some.descriptors.now } in
    sym (wrong_status c.args.extended at export e c.args.flags cookie c.args.payload.now status (ap (λ cs. length cs == 0) q ∙ not-true _ (sym (c.has_contexts.ensures core s) ∙ c.if-not-has_contexts.false)) (sym c.in-Some.ensures)
    (sym (c.fits_status.ensures core export e s q shown u) ∙ c.if-not-fits_status.true))

pub returns-then-has : goal.returns-then-has
returns-then-has c = λ core export e at cookie s q shown u is.
    let payload = c.args.payload.now in
    let status : Status = record { id = c.in-Some.id; extents = extents_of c.args.extended c.in-Some.descriptors.now } in
    let w : Operation = with_reply e (chunk_with at c.args.flags (status_kind c.args.extended) cookie payload) in
    c.finish_fault.ensures core export e (is_settled w) s q shown
    (told_with export e (chunk_with at c.args.flags (status_kind c.args.extended) cookie payload) c.args.exchange.now (has c.args.flags chunks.DONE) shown u (chunk_ends c.args.flags (status_kind c.args.extended) cookie payload at) status (status_is at c.args.extended is c.args.flags cookie payload ∙ ap option_to_list (sym c.in-Some.ensures)))
    ∙ ap (λ n. finish_by e.command e.length (is_proper export e) (has_failed e) n (lacks w)) (omega arith)
    ∙ ap (λ d. done_by d (finish_by e.command e.length (is_proper export e) (has_failed e) (total (pieces e)) (lacks w))) (sym (sym c.has.ensures ∙ c.if-has.true))
    ∙ sym (right_status c.args.extended at export e c.args.flags cookie payload status (ap (λ cs. length cs == 0) q ∙ not-true _ (sym (c.has_contexts.ensures core s) ∙ c.if-not-has_contexts.false)) (sym c.in-Some.ensures)
    (sym (c.fits_status.ensures core export e s q shown u) ∙ c.if-not-fits_status.false))

pub returns-else-has : goal.returns-else-has
returns-else-has c = λ core export e at cookie s q shown u is.
    let payload = c.args.payload.now in
    let status : Status = record { id = c.in-Some.id; extents = extents_of c.args.extended c.in-Some.descriptors.now } in
    let w : Operation = with_reply e (chunk_with at c.args.flags (status_kind c.args.extended) cookie payload) in
    ap (λ d. done_by d (finish_by e.command e.length (is_proper export e) (has_failed e) (total (pieces e)) (lacks w))) (sym (sym c.has.ensures ∙ c.if-has.false))
    ∙ sym (right_status c.args.extended at export e c.args.flags cookie payload status (ap (λ cs. length cs == 0) q ∙ not-true _ (sym (c.has_contexts.ensures core s) ∙ c.if-not-has_contexts.false)) (sym c.in-Some.ensures)
    (sym (c.fits_status.ensures core export e s q shown u) ∙ c.if-not-fits_status.false))
