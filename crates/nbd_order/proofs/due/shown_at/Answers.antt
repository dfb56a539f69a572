use Rattle.nbd_order.proofs.{Common.{◌≡◌, ℕ, suc, ◌+◌, ◌≤◌, length, inl, inr, sym, ◌∙◌, ap, Some, if◌then◌else◌, arith, false, slice_get, slice_get_cases, option_copied, Span, is_in, piece_offset, piece_size, first_shown, with_counts, looked_up, read_shows}, DueLemmas.{from_end, from_next, shown_from}}
use Rattle.nbd_order.proofs.due.shown_at.Goals as goal

pub loop-i-preserved : goal.loop-i-preserved
loop-i-preserved c =
    let ps = c.args.one.now.pieces.items in
    let cs = c.counts-counts.result.now in
    let i : ℕ = c.loop-i.i in
    let x : ℕ = c.args.offset in
    let p = c.in_ok-get.field-0.now in
    let at : slice_get ps i ≡ Some p =
    sym (looked_up c.deref.result.now i c.get.result c.get.ensures.lookup ∙ ap (λ xs. slice_get xs i) c.deref.ensures) ∙ ap option_copied c.in_ok-get.was in
    let apart : is_in (piece_offset p) (piece_size p) x ≡ false = ap (λ (s : Span). is_in s.offset s.size x) (sym c.of.ensures) ∙ sym c.holds.ensures ∙ c.if-holds.false in
    let next : suc i ≡ i + 1 = omega arith in
    elim (slice_get_cases cs i).1 [
      | inl e ↦ sym (from_next ps cs i x p e.0 at e.2 ∙ ap (λ b. if b then Some e.0 else shown_from ps cs (suc i) x) apart ∙ ap (λ j. shown_from ps cs j x) next) ∙ c.loop-i.invariant
      | inr e ↦ absurd (let l : length cs ≤ i = e.0 in omega arith)
    ]

pub returns : goal.returns
returns c =
    let ps = c.args.one.now.pieces.items in
    let cs = c.counts-counts.result.now in
    sym (from_end ps cs c.loop-i.i c.args.offset (omega arith)) ∙ c.loop-i.invariant ∙ ap (λ ws. first_shown ws c.args.offset) (ap (with_counts ps) c.counts-counts.ensures ∙ read_shows c.args.one.now c.requires)
