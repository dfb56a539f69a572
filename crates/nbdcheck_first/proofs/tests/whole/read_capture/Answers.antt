use Rattle.std.proofs.{Common.{◌≡◌, ◌∷◌, ◌++◌, [], append-nil, Ok, ap, refl, subst, sym, ◌∙◌}, lemmas.{Result.err_from_is_err_and, List.map-append, Option.IfSome_then}}
use Rattle.nbd_capture.specs.{Capture.{chunk_of, chunks_of}, Reading.{Reads, at_start}}
use Rattle.nbd_capture.proofs.{ReadToEndLemmas.{names_first_bad, reads_to_end, whole_text}, ReadingStepLemmas.{reads-append, reads_same}}
use Rattle.nbdcheck_first.proofs.tests.whole.read_capture.Goals as goal

pub loop-chunks-init : goal.loop-chunks-init
loop-chunks-init g c = (rw c.new-chunks.ensures.items (reads_same _ _ c.new-capture.ensures), ap (λ r. r.state) c.new-capture.ensures)

pub returns-in_err-chunk-clause-fault : goal.returns-in_err-chunk-clause-fault
returns-in_err-chunk-clause-fault g c =
    let p = err_from_is_err_and c.from_residual.result c.from_residual.ensures.1 in
    rw (p.1, p.2) (names_first_bad _ _ _ _ c.in_err-chunk.field-0.0 refl c.loop-chunks.invariant.0 (c.in_err-chunk.ensures.fault c.loop-chunks.invariant.1))

pub loop-chunks-preserved : goal.loop-chunks-preserved
loop-chunks-preserved g c =
    let chunk = rw c.in-Some.is at c.in_ok-chunk.ensures.chunk in
    let state = rw c.in-Some.is at c.in_ok-chunk.ensures.state in
    let grown : chunks_of c.push.new.self.items ≡ chunks_of c.loop-chunks.chunks.items ++ chunk_of c.in-Some.chunk ∷ [] =
    ap chunks_of c.in_ok-push.ensures.items ∙ map-append chunk_of c.loop-chunks.chunks.items (c.in-Some.chunk ∷ []) in
    (subst (λ chunks. Reads (at_start (g.R.Read.remaining c.args.reader) c.args.limit) c.next_chunk.new.self chunks) (sym grown) (reads-append _ _ _ _ _ c.loop-chunks.invariant.0 chunk), state)

pub returns-clause-chunks : goal.returns-clause-chunks
returns-clause-chunks g c =
    let last = c.in_ok-chunk.ensures.end c.loop-chunks.invariant.1 (ap Ok c.in_default.is) in
    let all = whole_text _ _ _ (reads_to_end _ _ _ _ [] c.loop-chunks.invariant.0 last) in
    IfSome_then (g.R.Read.remaining c.args.reader) all (λ text h. rw (sym (append-nil (chunks_of c.loop-chunks.chunks.items))) h.0)
