use Rattle.nbd_state.proofs.{Common.{arith, ◌≡◌, ◌∙◌, ◌∷◌, [], ap, Bool, false, is_some, sym, Status, extents_of, is_error_chunk, status_in, status_kind, status_content, is_allocation_told, chunk_of, option_to_list}, HeadLemmas.{chunk_ends, chunk_fails, chunk_gives}, RecordingLemmas.weaken}
use Rattle.nbd_state.proofs.asked.Exchange.take_chunk.Goals as goal

-- a status is no error
no_error : (extended : Bool) → is_error_chunk (status_kind extended) ≡ false
no_error extended = grind arith

pub returns-clause-taken : goal.returns-clause-taken
returns-clause-taken c = weaken c.take.result (λ x taken export e s u fits z.
    let h = c.args.head.now in
    let bytes = c.args.payload.now in
    taken export e (chunk_of h bytes) s u (chunk_ends h.flags h.kind h.cookie bytes h.at ∙ sym c.has-ends.ensures) (chunk_fails h.flags h.kind h.cookie bytes h.at ∙ sym c.is_error_chunk.ensures)
    (chunk_gives h.flags h.kind h.cookie bytes e.offset h.at ∙ ap option_to_list (sym c.in_ok-piece.ensures)) (ap (λ p. status_in (chunk_of h p)) (sym c.as_slice.ensures) ∙ c.in_default.ensures))
    c.take.ensures.taken

pub returns-in-Some-clause-taken : goal.returns-in-Some-clause-taken
returns-in-Some-clause-taken c = weaken c.take_status.result (λ x taken export e s u fits z.
    let h = c.args.head.now in
    let bytes = c.args.payload.now in
    let told = c.in-Some.ensures in
    let status = ap (λ p. status_in (chunk_of h p)) (sym c.as_slice.ensures) ∙ told.1 in
    let status_with : Bool → Status = λ x. record { id = c.in-Some.id; extents = extents_of x c.in-Some.descriptors.now } in
    taken export e (chunk_of h bytes) s u fits (chunk_ends h.flags h.kind h.cookie bytes h.at ∙ sym c.has-ends.ensures) (chunk_fails h.flags h.kind h.cookie bytes h.at ∙ ap is_error_chunk told.0 ∙ no_error (is_some h.at))
    (chunk_gives h.flags h.kind h.cookie bytes e.offset h.at ∙ ap option_to_list (status_content (is_some h.at) h.kind bytes told.0)) (status ∙ ap (λ x. (status_with x) ∷ []) (sym c.is_some-extended.ensures)) (z ∙ ap (is_allocation_told e.contexts) status))
    c.take_status.ensures.taken
