use Rattle.nbd_judge.proofs.{Common.{◌≡◌, ◌+◌, ◌-◌, ℕ, List, max, min, ap, ◌∙◌, slice_range, Part, Bytes, Hole, Span, span_of}, contents.RangeLemmas.{bytes_within, hole_within}}
use Rattle.nbd_judge.proofs.compare.piece_difference_within.Goals as goal

pub returns-in-Bytes-clause-least : goal.returns-in-Bytes-clause-least
returns-in-Bytes-clause-least g c =
    let span : Span = c.overlap-span.result in
    let part : Part = c.args.part in
    let is : c.of.result ≡ span_of (Bytes c.in-Bytes.offset c.in-Bytes.bytes) = c.of.ensures ∙ ap span_of c.in-Bytes.is in
    let begins = c.overlap-span.ensures.offset ∙ ap (λ (s : Span). max s.offset part.offset) is in
    let lasts = c.overlap-span.ensures.size ∙ ap (λ (s : Span). min (s.offset + s.size) (part.offset + part.length) - max s.offset part.offset) is in
    let first : ℕ = span.offset - c.in-Bytes.offset in
    rw c.in-Bytes.is (bytes_within (g.C.Contents.byte c.args.contents.now) part span c.in-Bytes.offset c.in-Bytes.bytes (slice_range c.as_slice.result.now first (first + span.size)) begins lasts c.if-span-eq0.false
    (ap (λ (l : List ℕ). slice_range l first (first + span.size)) c.as_slice.ensures) c.differs.result c.differs.ensures)

pub returns-in-Hole-clause-least : goal.returns-in-Hole-clause-least
returns-in-Hole-clause-least g c =
    let span : Span = c.overlap-span.result in
    let part : Part = c.args.part in
    let is : c.of.result ≡ span_of (Hole c.in-Hole.offset c.in-Hole.size) = c.of.ensures ∙ ap span_of c.in-Hole.is in
    let begins = c.overlap-span.ensures.offset ∙ ap (λ (s : Span). max s.offset part.offset) is in
    let lasts = c.overlap-span.ensures.size ∙ ap (λ (s : Span). min (s.offset + s.size) (part.offset + part.length) - max s.offset part.offset) is in
    rw c.in-Hole.is (hole_within (g.C.Contents.byte c.args.contents.now) part span c.in-Hole.offset c.in-Hole.size begins lasts c.differs_zero.result c.differs_zero.ensures.least)
