use Rattle.nbd_session.proofs.{Common.{ap, arith, refl, sym, extent_of, extents_of}, judge.ExtentLemmas.{Within, within_last, within_next, within_passed}}
use Rattle.nbd_session.proofs.statuses.last_begins_within.Goals as goal

pub loop-next-init : goal.loop-next-init
loop-next-init c = ap (Within c.args.size) c.in-Some.ensures

pub returns-then-extent-left : goal.returns-then-extent-left
returns-then-extent-left c =
    sym (within_passed c.args.size c.loop-next.left (extents_of c.args.extended c.args.descriptors.now) (extent_of c.loop-next.extent) (extent_of c.in-Some-first_extent.next) _ (extents_of c.args.extended c.loop-next.rest.now) (extents_of c.args.extended c.in-Some-first_extent.later.now)
    refl c.in-Some-first_extent.ensures c.if-extent-left.true c.loop-next.invariant)

pub loop-next-smaller : goal.loop-next-smaller
loop-next-smaller c = grind arith

pub loop-next-preserved : goal.loop-next-preserved
loop-next-preserved c =
    within_next c.args.size c.loop-next.left (extents_of c.args.extended c.args.descriptors.now) (extent_of c.loop-next.extent) (extent_of c.in-Some-first_extent.next) _ (extents_of c.args.extended c.loop-next.rest.now) (extents_of c.args.extended c.in-Some-first_extent.later.now)
    refl c.in-Some-first_extent.ensures (omega (arith, c.if-extent-left.false)) c.loop-next.invariant

pub returns : goal.returns
returns c = grind (arith, within_last)
