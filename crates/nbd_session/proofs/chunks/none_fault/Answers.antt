use Rattle.nbd_session.proofs.Common.{◌≡◌, ◌==◌, ◌||◌, ◌∙◌, ap, arith, length, not, sym, true, BadChunk, has_failed, is_proper, pieces, fault_if, total, done_by, finish_by, lacks_by}
use Rattle.nbd_session.proofs.chunks.none_fault.Goals as goal

pub returns-else-not-done : goal.returns-else-not-done
returns-else-not-done c = λ core export e settled s q shown told.
    let empty : true ≡ (length c.args.payload.now == 0) = sym c.if-not-done.false.0 ∙ c.is_empty.ensures in
    let done : true ≡ c.args.done = sym c.if-not-done.false.1 in
    let lacks = lacks_by e.command e.length settled e.contexts in
    c.finish_fault.ensures core export e settled s q shown told
    ∙ ap (λ n. finish_by e.command e.length (is_proper export e) (has_failed e) n lacks) (omega arith)
    ∙ (λ i. fault_if (not (empty i) || not (done i)) BadChunk (done_by (done i) (finish_by e.command e.length (is_proper export e) (has_failed e) (total (pieces e)) lacks)))
