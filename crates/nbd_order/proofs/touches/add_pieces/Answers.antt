use Rattle.nbd_order.proofs.{Common.{◌≡◌, ◌+◌, Some, sym, ◌∙◌, ap, arith, drop, length, slice_get}, AddingLemmas.piece_added, HereLemmas.joined_nothing}
use Rattle.std.proofs.lemmas.{Grind.common_steps, List.drop_all, Option.gets}
use Rattle.nbd_order.specs.internal.Here.{joined, pieces_here, touches_here}
use Rattle.nbd_order.proofs.touches.add_pieces.Goals as goal

pub loop-i-preserved : goal.loop-i-preserved
loop-i-preserved c = λ x.
    let pieces = c.args.one.now.pieces.items in
    let p = c.index-pieces-i.result in
    let at : slice_get pieces c.loop-i.i ≡ Some p = grind (arith, common_steps, gets) in
    ap (λ items. joined (touches_here items x) (pieces_here c.args.number (c.loop-i.i + 1) (drop (c.loop-i.i + 1) pieces) x)) c.in_ok-push.ensures.items
    ∙ piece_added c.loop-i.touches.items c.args.number pieces x c.loop-i.i p (record { span = c.of.result; here = c.of_piece.result }) at c.of.ensures c.of_piece.ensures
    ∙ c.loop-i.invariant x

pub returns : goal.returns
returns c = λ x.
    let pieces = c.args.one.now.pieces.items in
    let count = ap length c.deref-pieces.ensures in
    sym (joined_nothing (touches_here c.loop-i.touches.items x))
    ∙ ap (λ rest. joined (touches_here c.loop-i.touches.items x) (pieces_here c.args.number c.loop-i.i rest x)) (sym (drop_all c.loop-i.i pieces (omega (arith, count))))
    ∙ c.loop-i.invariant x
