use Rattle.std.specs.Prelude.{None, unwrap_or}
use Rattle.nbd_order.proofs.Common.{ℕ, sym, ◌∙◌, ap, subst, arith, ◌≡◌, ◌+◌, ◌<◌, ◌≤◌}
use Rattle.nbd_export.specs.Extents.{byte_of, size_of}
use Rattle.nbd_export.proofs.HeldLemmas.{slice_get-held_from, slice_get-held_from-none}
use Rattle.nbd_order.proofs.offsets.given_byte.Goals as goal

pub returns-then-offset-size : goal.returns-then-offset-size
returns-then-offset-size c =
    let inside : c.args.offset < size_of c.args.contents.now = subst (λ (n : ℕ). c.args.offset < n) c.size.ensures c.if-offset-size.true in
    let at : c.args.offset ≡ 0 + c.args.offset = omega arith in
    c.byte_at.ensures ∙ ap (byte_of c.args.contents.now) at ∙ ap (λ o. unwrap_or o None) (sym (slice_get-held_from (byte_of c.args.contents.now) 0 (size_of c.args.contents.now) c.args.offset inside))

pub returns-else-offset-size : goal.returns-else-offset-size
returns-else-offset-size c =
    let behind : size_of c.args.contents.now ≤ c.args.offset = subst (λ (n : ℕ). n ≤ c.args.offset) c.size.ensures c.if-offset-size.false in
    ap (λ o. unwrap_or o None) (sym (slice_get-held_from-none (byte_of c.args.contents.now) 0 (size_of c.args.contents.now) c.args.offset behind))
