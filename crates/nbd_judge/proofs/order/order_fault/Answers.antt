use Rattle.nbd_judge.proofs.{Common.{length, sym, subst, AreServices}, orders.TableLemmas.{fair, none_bad, told_by_table}}
use Rattle.nbd_judge.proofs.order.order_fault.Goals as goal

pub late-requires : goal.late-requires
late-requires c =
    let h = rw c.in-Ok.is at c.in_ok-fault.ensures in
    fair c.args.transcript.now c.args.order.now (none_bad c.args.transcript.now c.args.order.now c.in-Ok.table.items h)

pub returns-in-Some : goal.returns-in-Some
returns-in-Some c =
    let h = rw c.in-Ok.is at c.in_ok-fault.ensures in
    let found = c.in-Some.ensures in
    (found.0, found.1, none_bad c.args.transcript.now c.args.order.now c.in-Ok.table.items h, found.2)

pub returns : goal.returns
returns c =
    let h = rw c.in-Ok.is at c.in_ok-fault.ensures in
    told_by_table c.args.profile c.args.transcript.now c.args.order.now c.deref.result.now
    (subst (AreServices c.args.transcript.now c.args.order.now (length c.args.order.now)) (sym c.deref.ensures.value) h)
    c.in_default.ensures c.unserved.result c.unserved.ensures
