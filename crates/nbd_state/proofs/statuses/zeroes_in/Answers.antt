use Rattle.nbd_state.proofs.{Common.{◌≡◌, ◌+◌, ◌-◌, ◌++◌, ◌∙◌, ap, append-nil, append_assoc, arith, min, sym, extent_of, extents_of, zeroes_in, zero_part}, ZeroLemmas.next_zeroes}
use Rattle.nbd_state.proofs.statuses.zeroes_in.Goals as goal

pub loop-extent-init : goal.loop-extent-init
loop-extent-init c = grind arith

pub overflow_sub-length : goal.overflow_sub-length
overflow_sub-length c = c.loop-extent.invariant.0

pub loop-extent-smaller : goal.loop-extent-smaller
loop-extent-smaller c = grind arith

pub loop-extent-preserved : goal.loop-extent-preserved
loop-extent-preserved c = (
  (let l = c.loop-extent.invariant.0 in omega (arith, l)),
  λ fits.
      let l = c.loop-extent.invariant.0 in
      let x = extent_of c.in-Some.extent in
      let xs = extents_of c.args.extended c.in-Some.later.now in
      let left = c.loop-extent.left in
      let whole = c.args.length in
      let size : c.min-size.result ≡ min c.in-Some.extent.length left = c.min-size.ensures in
      let at : c.saturating_add-at.result ≡ c.args.offset + (whole - left) = omega (arith, c.saturating_add-at.ensures, fits, l) in
      let found = c.loop-extent.pieces.items in
      (λ i. (c.in_ok-push_zero.ensures ∙ (λ j. found ++ zero_part (at j) (size j) c.in-Some.extent.flags)) i
      ++ zeroes_in (c.args.offset + (whole - (left - size i))) (left - size i) xs)
      ∙ ap (λ z. (found ++ zero_part (c.args.offset + (whole - left)) (min c.in-Some.extent.length left) c.in-Some.extent.flags) ++ z) (sym (next_zeroes c.args.offset whole left x xs l))
      ∙ append_assoc found (zero_part (c.args.offset + (whole - left)) (min c.in-Some.extent.length left) c.in-Some.extent.flags) _
      ∙ ap (λ es. found ++ zeroes_in (c.args.offset + (whole - left)) left es) (sym c.in-Some.ensures)
      ∙ c.loop-extent.invariant.1 fits,
)

pub returns : goal.returns
returns c = grind (arith, append-nil)
