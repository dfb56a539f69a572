use Rattle.nbd_judge.proofs.{Common.{◌-◌, ◌<◌, length, Some, Ok, Err, sym, ◌∙◌, ap, subst, arith, slice_index_or, None, slice_get-get_or, Entry, Asked, report_of_request, AreServices, IsServiceAfter}, orders.{FirstLemmas.read_at, TableLemmas.{first_bad, one_more_served, request_within}}}
use Rattle.nbd_judge.proofs.order.services.Goals as goal

pub index_mut-requires-in-Ok : goal.index_mut-requires-in-Ok
index_mut-requires-in-Ok c =
    let e : Entry = slice_index_or c.args.order.now c.loop-i.i (record { request = 0; part = None }) in
    let w = request_within e.request c.args.transcript.now.asked (report_of_request c.in-Some.one.now) (sym c.in-Some.ensures) in
    let len = c.loop-i.invariant.len in
    omega (arith, w.0, w.1, len)

pub loop-i-preserved : goal.loop-i-preserved
loop-i-preserved c =
    let e : Entry = slice_index_or c.args.order.now c.loop-i.i (record { request = 0; part = None }) in
    let a : Asked = report_of_request c.in-Some.one.now in
    let w = request_within e.request c.args.transcript.now.asked a (sym c.in-Some.ensures) in
    let len = c.loop-i.invariant.len in
    let within : e.request - 1 < length c.loop-i.table.items = omega (arith, w.0, w.1, len) in
    let cell = read_at c.loop-i.table.items (e.request - 1) c.index_mut.result.now within c.index_mut.ensures.value ∙ ap Some (sym c.replace-service.ensures.value) in
    one_more_served c.args.transcript.now c.args.order.now c.loop-i.i e (slice_get-get_or c.args.order.now c.loop-i.i (record { request = 0; part = None }) c.loop-i-test.true) a (sym c.in-Some.ensures)
    c.loop-i.table.items c.loop-i.invariant c.replace-service.result cell c.in-Ok.service
    (subst (λ span. IsServiceAfter c.replace-service.result span e.part (Ok c.in-Ok.service)) c.inside.ensures.span (rw c.in-Ok.is at c.in_ok-fault.ensures)) c.replace-service.new.dest

pub returns-in-Err : goal.returns-in-Err
returns-in-Err c =
    let e : Entry = slice_index_or c.args.order.now c.loop-i.i (record { request = 0; part = None }) in
    let a : Asked = report_of_request c.in-Some.one.now in
    let w = request_within e.request c.args.transcript.now.asked a (sym c.in-Some.ensures) in
    let len = c.loop-i.invariant.len in
    let within : e.request - 1 < length c.loop-i.table.items = omega (arith, w.0, w.1, len) in
    let cell = read_at c.loop-i.table.items (e.request - 1) c.index_mut.result.now within c.index_mut.ensures.value ∙ ap Some (sym c.replace-service.ensures.value) in
    first_bad c.args.transcript.now c.args.order.now c.loop-i.i e (slice_get-get_or c.args.order.now c.loop-i.i (record { request = 0; part = None }) c.loop-i-test.true) a (sym c.in-Some.ensures)
    c.loop-i.table.items c.loop-i.invariant c.replace-service.result cell c.in-Err.fault
    (subst (λ span. IsServiceAfter c.replace-service.result span e.part (Err c.in-Err.fault)) c.inside.ensures.span (rw c.in-Err.is at c.in_ok-fault.ensures))

pub returns : goal.returns
returns c = subst (λ n. AreServices c.args.transcript.now c.args.order.now n c.loop-i.table.items) (omega arith) c.loop-i.invariant
