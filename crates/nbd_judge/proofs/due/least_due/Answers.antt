use Rattle.nbd_judge.proofs.{Common.{◌≡◌, ℕ, true, Some, sym, ◌∙◌, ap, subst, Span, report_of_request, in_part, is_in, Asked, Report, asked_at, due_in, inside_in, IsLeastDue, is_chunked}, orders.{DueLemmas.{least_chunked, least_whole}, TableLemmas.span_of_request}, verdicts.SoundLemmas.servable, due.least_due.Goals.{in-Some, in-None}}
use Rattle.nbd_judge.proofs.due.least_due.Goals as goal

pub returns-then-not-serves_by_chunk : goal.returns-then-not-serves_by_chunk
returns-then-not-serves_by_chunk c =
    least_whole c.args.profile c.args.transcript.now c.args.entry (report_of_request c.in_ok-one.one.now) (sym c.in_ok-one.ensures) c.requires (sym c.serves_by_chunk.ensures.is ∙ c.if-not-serves_by_chunk.true)

pub least_shown-requires-clause-apart : goal.least_shown-requires-clause-apart
least_shown-requires-clause-apart c =
    (servable c.args.transcript.now c.inside-within.ensures.facts c.args.entry.request (report_of_request c.in_ok-one.one.now) (sym c.in_ok-one.ensures)).laid.apart

pub returns : goal.returns
returns c =
    let r : Report = c.args.transcript.now in
    let a : Asked = report_of_request c.in_ok-one.one.now in
    let told : asked_at c.args.entry.request r.asked ≡ Some a = sym c.in_ok-one.ensures in
    let chunked : is_chunked c.args.profile a.command ≡ true = sym c.serves_by_chunk.ensures.is ∙ c.if-not-serves_by_chunk.false in
    subst (IsLeastDue (due_in c.args.profile r) c.args.entry) (sym c.lesser.ensures)
    (elim c.match-entry.branch [
      | in-Some w ↦
          (let is_there : (x : ℕ) → in_part c.args.entry.part x ≡ is_in c.match-entry.span.offset c.match-entry.span.size x =
          λ x. ap (λ o. in_part o x) w.in-Some.is ∙ sym (ap (λ (s : Span). is_in s.offset s.size x) w.span-is) in
          least_chunked c.args.profile r c.args.entry a told c.requires chunked c.match-entry.span c.least_shown.result c.least_shown.ensures
          (λ x p i. sym (is_there x) ∙ p)
          (λ x h. (is_there x ∙ h, (c.requires.part w.in-Some.part w.in-Some.is).1 x (sym (ap (λ (s : Span). is_in s.offset s.size x) w.span-is) ∙ h))))
      | in-None w ↦
          (let is_there : (x : ℕ) → inside_in r c.args.entry.request x ≡ is_in c.match-entry.span.offset c.match-entry.span.size x =
          λ x. span_of_request r c.args.entry.request a told x ∙ sym (ap (λ (s : Span). is_in s.offset s.size x) (w.span-is ∙ c.inside-within.ensures.span)) in
          least_chunked c.args.profile r c.args.entry a told c.requires chunked c.match-entry.span c.least_shown.result c.least_shown.ensures
          (λ x p i. sym (is_there x) ∙ i)
          (λ x h. (ap (λ o. in_part o x) w.in-None.is, is_there x ∙ h)))
    ])
