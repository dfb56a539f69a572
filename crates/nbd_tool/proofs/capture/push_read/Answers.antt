use Rattle.nbd_tool.proofs.{Common.{[], Ok, append-nil, ap, refl, sym, arith, length, err_from_is_err_and, IfSome_then, Profile, names_first_bad, reads_to_end, whole_text, reads_same, flat_of}, OverLemmas.{cause_of, next_pushed}, SizeLemmas.flat-le}
use Rattle.nbd_tool.proofs.capture.push_read.Goals as goal

pub loop-bytes-init : goal.loop-bytes-init
loop-bytes-init g c = ([], reads_same _ _ c.requires.new, ap (λ r. r.state) c.requires.new, λ profile over. over)

pub push_shown-requires : goal.push_shown-requires
push_shown-requires g c =
    let s = c.loop-bytes.invariant in
    let text = flat-le s.1.bytes s.0 s.1.is_text in
    let room = s.1.takes.fits in
    let next = rw c.in-Some.is at c.in_ok-side.ensures.shrinks in
    let piece = ap length c.as_slice.ensures.value in
    (c.requires.empty.0, flat_of s.0, s.3 c.requires.empty.0 c.requires.empty.1, omega (arith, text, room, next, piece))

pub loop-bytes-preserved : goal.loop-bytes-preserved
loop-bytes-preserved g c =
    let s = c.loop-bytes.invariant in
    next_pushed (λ all. (profile : Profile) → g.T.Intake.over c.args.intake.now profile [] → g.T.Intake.over c.push_shown.new.intake profile all) _ c.loop-bytes.reader c.next_into.new.self s.0 c.in-Some.side c.next_into.new.bytes.items c.as_slice.result.now s.1
    (rw c.in-Some.is at c.in_ok-side.ensures.chunk) (rw c.in-Some.is at c.in_ok-side.ensures.state) c.as_slice.ensures.value (λ profile over. c.in_ok-push_shown.ensures profile (flat_of s.0) (s.3 profile over))

pub returns-in_err-side-clause-cause : goal.returns-in_err-side-clause-cause
returns-in_err-side-clause-cause g c =
    let s = c.loop-bytes.invariant in
    let p = err_from_is_err_and c.from_residual.result c.from_residual.ensures.1 in
    rw (p.1, p.2) (cause_of _ _ (names_first_bad _ _ _ _ c.in_err-side.field-0.0 refl s.1 (c.in_err-side.ensures.fault s.2)))

pub returns-clause-over : goal.returns-clause-over
returns-clause-over g c = λ profile over.
    let s = c.loop-bytes.invariant in
    let last = c.in_ok-side.ensures.end s.2 (ap Ok c.in_default.is) in
    let all = whole_text _ _ _ (reads_to_end _ _ _ _ [] s.1 last) in
    record { chunks = s.0; is_text = IfSome_then c.args.reader.now.rest all (λ text h. rw (sym (append-nil s.0)) h.0); over = s.3 profile over }

pub returns-clause-limited : goal.returns-clause-limited
returns-clause-limited g c =
    let s = c.loop-bytes.invariant in
    let last = c.in_ok-side.ensures.end s.2 (ap Ok c.in_default.is) in
    IfSome_then c.args.reader.now.rest (whole_text _ _ _ (reads_to_end _ _ _ _ [] s.1 last)) (λ text h. h.1)
