use Rattle.nbd_tool.proofs.{Common.err_from_is_err_and, OverLemmas.capture_over, JudgedLemmas.{concluded, each_err, each_ok, leaves, tells}, SayLemmas.{answers_so, says_nothing, says_written}}
use Rattle.nbd_tool.proofs.check.run_check_of.Goals as goal

pub returns-clause-written : goal.returns-clause-written
returns-clause-written g c = each_ok _ _ c.write_verdict.result (λ initial is_initial.
    let judged = c.in_ok-verdict.ensures.verdict in
    let is = concluded (g.C.Read.remaining c.args.capture) (g.O.Read.remaining c.args.order) initial c.in_ok-finished.ensures.finish.session c.in_ok-finished.finished judged.0 c.in_ok-verdict.verdict
    c.in_ok-finished.ensures.finish.over c.in_ok-finished.ensures.finish.fault c.in_ok-finished.ensures.finish.report c.in_ok-finished.ensures.finish.wire judged.1 (judged.2 initial is_initial) in
    tells c.args.profile (g.C.Read.remaining c.args.capture) (g.O.Read.remaining c.args.order) initial (g.W.Write.contents c.args.out.now) (g.W.Write.contents c.write_verdict.new.out)
    c.in_ok-verdict.verdict c.write_verdict.result is
    c.write_verdict.ensures.answer c.write_verdict.ensures.written)

pub returns-clause-exactly : goal.returns-clause-exactly
returns-clause-exactly g c =
    answers_so _ c.args.profile (g.C.Read.remaining c.args.capture) (g.O.Read.remaining c.args.order) (g.W.Write.contents c.args.out.now) (g.W.Write.contents c.write_verdict.new.out)
    c.write_verdict.result (returns-clause-written g c)

pub returns-clause-left : goal.returns-clause-left
returns-clause-left g c = each_err _ _ c.write_verdict.result (λ initial is_initial.
    let judged = c.in_ok-verdict.ensures.verdict in
    let is = concluded (g.C.Read.remaining c.args.capture) (g.O.Read.remaining c.args.order) initial c.in_ok-finished.ensures.finish.session c.in_ok-finished.finished judged.0 c.in_ok-verdict.verdict
    c.in_ok-finished.ensures.finish.over c.in_ok-finished.ensures.finish.fault c.in_ok-finished.ensures.finish.report c.in_ok-finished.ensures.finish.wire judged.1 (judged.2 initial is_initial) in
    leaves c.args.profile (g.C.Read.remaining c.args.capture) (g.O.Read.remaining c.args.order) initial (g.W.Write.contents c.args.out.now) (g.W.Write.contents c.write_verdict.new.out)
    c.in_ok-verdict.verdict c.write_verdict.result is c.write_verdict.ensures.left)

pub returns-clause-yes : goal.returns-clause-yes
returns-clause-yes g c = λ initial is_initial.
    let judged = c.in_ok-verdict.ensures.verdict in
    let is = concluded (g.C.Read.remaining c.args.capture) (g.O.Read.remaining c.args.order) initial c.in_ok-finished.ensures.finish.session c.in_ok-finished.finished judged.0 c.in_ok-verdict.verdict
    c.in_ok-finished.ensures.finish.over c.in_ok-finished.ensures.finish.fault c.in_ok-finished.ensures.finish.report c.in_ok-finished.ensures.finish.wire judged.1 (judged.2 initial is_initial) in
    says_written c.args.profile (g.C.Read.remaining c.args.capture) (g.O.Read.remaining c.args.order) initial (g.W.Write.contents c.args.out.now) (g.W.Write.contents c.write_verdict.new.out)
    c.in_ok-verdict.verdict c.write_verdict.result is
    c.write_verdict.ensures.written c.write_verdict.ensures.left

pub returns-in_err-finished-clause-yes : goal.returns-in_err-finished-clause-yes
returns-in_err-finished-clause-yes g c = λ initial is_initial. says_nothing c.args.profile (g.C.Read.remaining c.args.capture) (g.O.Read.remaining c.args.order) initial (g.W.Write.contents c.args.out.now)

pub returns-in_err-verdict-clause-yes : goal.returns-in_err-verdict-clause-yes
returns-in_err-verdict-clause-yes g c = λ initial is_initial. says_nothing c.args.profile (g.C.Read.remaining c.args.capture) (g.O.Read.remaining c.args.order) initial (g.W.Write.contents c.args.out.now)

pub returns-in_err-verdict-clause-cause : goal.returns-in_err-verdict-clause-cause
returns-in_err-verdict-clause-cause g c =
    let p = err_from_is_err_and c.from_residual-in_err-verdict.result c.from_residual-in_err-verdict.ensures.1 in
    rw (p.1, p.2) (c.in_err-verdict.ensures.cause (g.C.Read.remaining c.args.capture) (capture_over (g.C.Read.remaining c.args.capture) c.in_ok-finished.ensures.finish.session c.in_ok-finished.ensures.finish.over))
