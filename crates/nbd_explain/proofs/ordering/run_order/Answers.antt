use Rattle.nbd_explain.proofs.OrderingLemmas.{orders_written}
use Rattle.nbd_explain.proofs.ordering.run_order.Goals as goal

pub returns-clause-written : goal.returns-clause-written
returns-clause-written g c =
    orders_written (g.C.Read.remaining c.args.capture) c.args.scope.wanted c.in_ok-finished.ensures.finish.session c.in_ok-finished.finished
    c.in_ok-told.told.1 c.in_ok-told.told.0.bytes.items (g.W.Write.contents c.args.out.now) (g.W.Write.contents c.write_told.new.out) c.write_told.result
    c.in_ok-finished.ensures.finish.over c.in_ok-finished.ensures.finish.fault c.in_ok-finished.ensures.finish.report c.in_ok-finished.ensures.finish.wire c.in_ok-told.ensures.told c.write_told.ensures.written
