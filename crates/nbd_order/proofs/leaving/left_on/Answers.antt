use Rattle.nbd_export.specs.Extents.{byte_of, size_of}
use Rattle.nbd_judge.specs.{Captures.SaysYes, Folding.byte_behind}
use Rattle.nbd_order.proofs.LeavingLemmas.{left_held}
use Rattle.nbd_order.proofs.leaving.left_on.Goals as goal

pub returns : goal.returns
returns c =
    let yes : SaysYes c.in_ok-verdict.verdict = rw c.if-not-is_yes.false at c.is_yes.ensures in
    let behind = c.in_ok-verdict.ensures.left yes in (
      (c.in_ok-verdict.verdict, c.in_ok-verdict.ensures.judged, yes),
      left_held c.args.transcript.now.asked c.forget_open.new.contents (byte_of c.judge.new.contents) (byte_behind c.args.transcript.now c.args.order.now (byte_of c.args.contents))
          (size_of c.judge.new.contents) (size_of c.args.contents) c.forget_open.ensures.size behind.0 c.in_ok-forget_open.ensures.done behind.1,
    )
