use Rattle.nbd_judge.proofs.{Common.{◌≡◌, ◌+◌, ◌&&◌, ℕ, Some, slice_get, slice_index_or, sym, ◌∙◌, ap, subst, arith, IsTrue, slice_get-get_or, option_copied, IsLeast, Span, with_counts, is_in, first_shown}, orders.ShownLemmas.{ShownBefore, least_first, looked_up, read_shows, shown_apart, shown_met, shown_none, shown_one, shown_past, span_at}}
use Rattle.nbd_judge.proofs.due.least_shown.Goals.{in-Some+then-meet-gt0, in-Some+else-meet-gt0, in_default}
use Rattle.nbd_judge.proofs.due.least_shown.Goals as goal

pub loop-i-preserved : goal.loop-i-preserved
loop-i-preserved c =
    let ps = c.args.one.now.pieces.items in
    let cs = c.counts-counts.result.now in
    let ws = with_counts ps cs in
    let i : ℕ = c.loop-i.i in
    let found : option_copied c.get.result ≡ slice_get ps i = looked_up c.deref.result.now i c.get.result c.get.ensures.lookup ∙ ap (λ xs. slice_get xs i) c.deref.ensures in
    elim c.match-get.branch [
      | in-Some+then-meet-gt0 w ↦
          (let at : slice_get ps i ≡ Some w.in-Some.piece.now = sym found ∙ ap option_copied w.in-Some.is in
          let n : ℕ = slice_index_or cs i 0 in
          let counted : slice_get cs i ≡ Some n = slice_get-get_or cs i 0 (omega arith) in
          subst (IsLeast (ShownBefore ws c.args.span (i + 1))) (sym (w.least-is ∙ w.lesser-least.ensures))
          (shown_met ws c.args.span i c.loop-i.least c.loop-i.invariant (span_at n w.in-Some.piece.now) w.meet.result (shown_one ps cs i w.in-Some.piece.now n at counted) (λ x. w.meet.ensures.both x ∙ ap (λ (s : Span). is_in s.offset s.size x && is_in c.args.span.offset c.args.span.size x) w.of.ensures) w.if-meet-gt0.true))
      | in-Some+else-meet-gt0 w ↦
          (let at : slice_get ps i ≡ Some w.in-Some.piece.now = sym found ∙ ap option_copied w.in-Some.is in
          let n : ℕ = slice_index_or cs i 0 in
          let counted : slice_get cs i ≡ Some n = slice_get-get_or cs i 0 (omega arith) in
          subst (IsLeast (ShownBefore ws c.args.span (i + 1))) (sym w.least-is)
          (shown_apart ws c.args.span i c.loop-i.least c.loop-i.invariant (span_at n w.in-Some.piece.now) w.meet.result (shown_one ps cs i w.in-Some.piece.now n at counted) (λ x. w.meet.ensures.both x ∙ ap (λ (s : Span). is_in s.offset s.size x && is_in c.args.span.offset c.args.span.size x) w.of.ensures) (let e = w.if-meet-gt0.false in omega (arith, e))))
      | in_default w ↦ subst (IsLeast (ShownBefore ws c.args.span (i + 1))) (sym w.least-is) (shown_past ws c.args.span i c.loop-i.least c.loop-i.invariant (shown_none ps cs i (sym found ∙ ap option_copied w.in_default.is)))
    ]

pub returns : goal.returns
returns c =
    let ps = c.args.one.now.pieces.items in
    subst (λ ws. IsLeast (λ n. (x : ℕ) × IsTrue (is_in c.args.span.offset c.args.span.size x) × (first_shown ws x ≡ Some n)) c.loop-i.least) (ap (with_counts ps) c.counts-counts.ensures ∙ read_shows c.args.one.now c.requires.read)
    (least_first ps c.counts-counts.result.now c.args.span c.loop-i.i c.loop-i.least c.requires.apart (omega arith) c.loop-i.invariant)
