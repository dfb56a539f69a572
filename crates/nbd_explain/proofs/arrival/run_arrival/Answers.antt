use Rattle.nbd_explain.proofs.{ExplainedLemmas.{arrives, arrives_not}, Common.{subst, rules, Appends, number_lines}}
use Rattle.nbd_explain.proofs.arrival.run_arrival.Goals as goal

pub returns-in_ok-write_numbers-in-Ok-clause-written : goal.returns-in_ok-write_numbers-in-Ok-clause-written
returns-in_ok-write_numbers-in-Ok-clause-written g c =
    arrives (g.C.Read.remaining c.args.capture) c.in_ok-finished.ensures.finish.session c.in-Ok.transcript c.in_ok-finished.finished (g.W.Write.contents c.args.out.now) (g.W.Write.contents c.write_numbers.new.out)
    c.in_ok-finished.ensures.finish.over c.in-Ok.is c.in_ok-finished.ensures.finish.fault c.in_ok-finished.ensures.finish.report
    (subst (λ n. Appends (g.W.Write.contents c.args.out.now) (g.W.Write.contents c.write_numbers.new.out) (number_lines n)) c.count.ensures.count c.in_ok-write_numbers-in-Ok.ensures.written)

pub returns-in-Err-Wire-clause-written : goal.returns-in-Err-Wire-clause-written
returns-in-Err-Wire-clause-written g c =
    arrives_not (g.C.Read.remaining c.args.capture) c.in_ok-finished.ensures.finish.session c.in-Err-Wire.field-0-0 c.in-Err-Wire.field-0-1 c.in_ok-finished.finished (g.W.Write.contents c.args.out.now) (g.W.Write.contents c.args.out.now)
    c.in_ok-finished.ensures.finish.over (search rules) c.in_ok-finished.ensures.finish.fault c.in_ok-finished.ensures.finish.wire (search rules)
