use Rattle.nbd_session.proofs.Common.{◌≡◌, ◌∙◌, ◌+◌, ◌==◌, ◌||◌, not, length, refl, sym, ap, is_some, None, Bool, true, false, Piece, Message, piece_of, has, failure_of, has_failed, is_proper, pieces, with_reply, is_settled, BadChunk, BadContent, done_by, finish_by, fault_if, chunk_fault, fits_read, read_as, status_kind, total, chunk_of, chunk_with, chunk_ends, told_without, status_read}
use Rattle.nbd_session.proofs.judge.ChunkFaultLemmas.{bad-chunk, none-chunk, content-chunk, failure-chunk, lacks, other_status, status_only}
use Rattle.nbd_wire.specs.declared.chunks.TheConstants as chunks
use Rattle.nbd_session.proofs.chunks.payload_fault.Goals as goal

none_kind : (extended : Bool) → (status_kind extended == chunks.NONE) ≡ false
none_kind false = refl
none_kind true = refl

pub returns-then-is_status : goal.returns-then-is_status
returns-then-is_status c = λ core export e s contexts h u.
    let head = c.args.head.now in
    let payload = c.args.payload.now in
    let x = is_some head.at in
    let o = status_only head.at head.kind (sym c.is_status.ensures ∙ c.if-is_status.true) in
    let not_none : (status_kind x == chunks.NONE) ≡ false = none_kind x in
    c.status_fault.ensures core export e head.at head.cookie s contexts h u (sym c.is_some.ensures)
    ∙ ap (λ y. chunk_fault y false export e (with_reply e (chunk_with head.at head.flags (status_kind y) head.cookie payload)) head.flags (status_kind y) payload) c.is_some.ensures
    ∙ ap (λ k. chunk_fault x false export e (with_reply e (chunk_with head.at head.flags (status_kind x) head.cookie payload)) head.flags k payload) (sym (status_read core.profile x))
    ∙ ap (λ b. chunk_fault x b export e (with_reply e (chunk_with head.at head.flags (status_kind x) head.cookie payload)) head.flags (read_as core.profile (status_kind x)) payload) (sym not_none)
    ∙ ap (λ k. chunk_fault x (k == chunks.NONE) export e (with_reply e (chunk_with head.at head.flags k head.cookie payload)) head.flags (read_as core.profile k) payload) (sym o)

pub returns-then-kind-eq-NONE : goal.returns-then-kind-eq-NONE
returns-then-kind-eq-NONE c = λ core export e s contexts h u.
    let head = c.args.head.now in
    let payload = c.args.payload.now in
    let m : Message = chunk_of head payload in
    let w = with_reply e m in
    c.none_fault.ensures core export e (is_settled w) s contexts h
    (told_without export e m _ (has head.flags chunks.DONE) h u (chunk_ends head.flags head.kind head.cookie payload head.at) (other_status head.at head.flags head.kind head.cookie payload (sym c.is_status.ensures ∙ c.if-is_status.false)))
    ∙ ap (λ d. fault_if (not (length payload == 0) || not d) BadChunk (done_by d (finish_by e.command e.length (is_proper export e) (has_failed e) (total (pieces e)) (lacks w)))) c.has-done.ensures
    ∙ sym (none-chunk head.at core.profile export e head.flags head.kind head.cookie payload c.if-kind-eq-NONE.true)

pub returns-in-Some : goal.returns-in-Some
returns-in-Some c = λ core export e s contexts h u.
    let head = c.args.head.now in
    let payload = c.args.payload.now in
    let piece : Piece = piece_of c.in-Some.content in
    let m : Message = chunk_of head payload in
    let w = with_reply e m in
    c.content_fault.ensures core export e piece (is_settled w) s contexts h
    (told_without export e m _ (has head.flags chunks.DONE) h u (chunk_ends head.flags head.kind head.cookie payload head.at) (other_status head.at head.flags head.kind head.cookie payload (sym c.is_status.ensures ∙ c.if-is_status.false)))
    (sym c.content_span.ensures)
    ∙ ap (λ d. fault_if (not (fits_read export e piece)) BadContent (done_by d (finish_by e.command e.length (is_proper export e) (has_failed e) (total (pieces e) + c.content_span.result.size) (lacks w)))) c.has-done.ensures
    ∙ ap (λ s. fault_if (not (fits_read export e piece)) BadContent (done_by (has head.flags chunks.DONE) (finish_by e.command e.length (is_proper export e) (has_failed e) (total (pieces e) + s.size) (lacks w)))) c.content_span.ensures
    ∙ sym (content-chunk head.at core.profile export e head.flags head.kind head.cookie payload piece (sym c.in-Some.ensures.same))

pub returns-then-fits_failure : goal.returns-then-fits_failure
returns-then-fits_failure c = λ core export e s contexts h u.
    let head = c.args.head.now in
    let failure = c.in-Some-failure_of.failure in
    let read : read_as core.profile head.kind ≡ c.read_as.result = ap (λ p. read_as p head.kind) (sym s.profile_is) ∙ sym c.read_as.ensures in
    let fits = sym (c.fits_failure.ensures e (sym h.offset) (sym h.length)) ∙ c.if-fits_failure.true in
    sym (failure-chunk head.at core.profile export e head.flags head.kind head.cookie c.args.payload.now failure (ap (λ k. failure_of k c.args.payload.now) read ∙ sym c.in-Some-failure_of.ensures.same)
    ∙ ap (λ b. fault_if (not b) BadContent None) fits)

pub returns-else-fits_failure : goal.returns-else-fits_failure
returns-else-fits_failure c = λ core export e s contexts h u.
    let head = c.args.head.now in
    let failure = c.in-Some-failure_of.failure in
    let read : read_as core.profile head.kind ≡ c.read_as.result = ap (λ p. read_as p head.kind) (sym s.profile_is) ∙ sym c.read_as.ensures in
    let fits = sym (c.fits_failure.ensures e (sym h.offset) (sym h.length)) ∙ c.if-fits_failure.false in
    sym (failure-chunk head.at core.profile export e head.flags head.kind head.cookie c.args.payload.now failure (ap (λ k. failure_of k c.args.payload.now) read ∙ sym c.in-Some-failure_of.ensures.same)
    ∙ ap (λ b. fault_if (not b) BadContent None) fits)

pub returns-in_default-failure_of : goal.returns-in_default-failure_of
returns-in_default-failure_of c = λ core export e s contexts h u.
    let head = c.args.head.now in
    let read : read_as core.profile head.kind ≡ c.read_as.result = ap (λ p. read_as p head.kind) (sym s.profile_is) ∙ sym c.read_as.ensures in
    sym (bad-chunk head.at core.profile export e head.flags head.kind head.cookie c.args.payload.now c.if-kind-eq-NONE.false (sym c.is_status.ensures ∙ c.if-is_status.false) (sym c.in_default.ensures.same)
    (ap (λ k. failure_of k c.args.payload.now) read ∙ sym c.in_default-failure_of.ensures.same))
