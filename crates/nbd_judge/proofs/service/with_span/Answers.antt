use Rattle.nbd_judge.proofs.{Common.{◌≡◌, ◌-◌, ◌<◌, ◌⊎◌, Some, ap, subst, sym, ◌∙◌, HasMore, IsFree, Meets, Names-push, Parts, sizes_of}, orders.ServiceLemmas.{in_span, may_serve, meets_part, off_span, one_more, out_of_span}, service.with_span.Goals.{then-not-lies_in-via-then-not-lies_in, then-not-lies_in-via-else-not-lies_in+in_ok-insert+then-not-branch}}
use Rattle.nbd_judge.proofs.service.with_span.Goals as goal

pub returns-then-not-lies_in : goal.returns-then-not-lies_in
returns-then-not-lies_in c = λ within before k is_span h. elim c.then-not-lies_in.branch [
  | then-not-lies_in-via-then-not-lies_in w ↦ (
    out_of_span c.args.inside within is_span before k (sizes_of c.args.parts.value.spans) c.args.parts.value.left h c.args.part
        (off_span c.args.inside c.args.part (sym c.lies_in.ensures ∙ w.if-not-lies_in.true)),
    h.in_parts,
  )
  | then-not-lies_in-via-else-not-lies_in+in_ok-insert+then-not-branch w ↦ (
    meets_part c.args.inside within is_span before k (sizes_of c.args.parts.value.spans) c.args.parts.value.left h c.args.part
        (subst (λ (p : Parts). (c.args.part.length ≡ 0) ⊎ Meets (sizes_of p.spans) c.args.part.offset c.args.part.length) w.deref_mut.ensures.value
        (w.in_ok-insert.ensures.left w.if-not-branch.true).1),
    h.in_parts,
  )
]

pub returns : goal.returns
returns c = λ within before k is_span h.
    let part = c.args.part in
    let taken = subst (λ (p : Parts). (0 < part.length) × IsFree (sizes_of p.spans) part.offset part.length × HasMore (sizes_of p.spans) (sizes_of c.insert.new.self) part.offset part.length)
    c.deref_mut.ensures.value (c.in_ok-insert.ensures.taken c.if-not-branch.false) in
    let lies = in_span c.args.inside part (sym c.lies_in.ensures ∙ c.if-not-lies_in.false) in
    let left = c.saturating_sub-left.ensures ∙ ap (λ (p : Parts). p.left - part.length) c.deref.ensures in (
      may_serve c.args.inside within is_span before k (sizes_of c.args.parts.value.spans) c.args.parts.value.left h part taken.0 lies.0 lies.1 taken.1,
      (
        Names-push before (record { request = k; part = Some part }),
        rw (left, ap (λ (p : Parts). p.spans) c.deref_mut-2.ensures.value) (one_more c.args.inside within is_span before k (sizes_of c.args.parts.value.spans) c.args.parts.value.left h part taken.0 lies.0 lies.1 taken.1 (sizes_of c.insert.new.self) taken.2),
      ),
    )
