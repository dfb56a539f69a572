use Rattle.nbd_explain.proofs.{Common.{subst, Appends, AppendsPrefix, message_lines, capture_over}, LastLineLemmas.{all_shown, last_stopped, output_cause, stopped}}
use Rattle.nbd_explain.proofs.show.run_show_of.Goals as goal

pub returns-in_err-write_messages-clause-left : goal.returns-in_err-write_messages-clause-left
returns-in_err-write_messages-clause-left g c =
    let lines : AppendsPrefix (g.W.Write.contents c.args.out.now) (g.W.Write.contents c.write_messages.new.out) (message_lines c.in_ok-session.session.messages) =
    subst (λ messages. AppendsPrefix (g.W.Write.contents c.args.out.now) (g.W.Write.contents c.write_messages.new.out) (message_lines messages)) c.into_messages-messages.ensures.messages c.in_err-write_messages.ensures.err in
    stopped (g.C.Read.remaining c.args.capture) c.in_ok-session.session c.in_ok-session.ensures.over c.into_messages-messages.ensures.run c.into_messages-messages.ensures.complete
    (g.W.Write.contents c.args.out.now) (g.W.Write.contents c.write_messages.new.out) c.in_err-write_messages.field-0.0 c.from_residual-in_err-write_messages.result lines c.from_residual-in_err-write_messages.ensures.1

pub returns-clause-written : goal.returns-clause-written
returns-clause-written g c =
    let lines : Appends (g.W.Write.contents c.args.out.now) (g.W.Write.contents c.write_messages.new.out) (message_lines c.in_ok-session.session.messages) =
    subst (λ messages. Appends (g.W.Write.contents c.args.out.now) (g.W.Write.contents c.write_messages.new.out) (message_lines messages)) c.into_messages-messages.ensures.messages c.in_ok-write_messages.ensures.ok in
    all_shown (g.C.Read.remaining c.args.capture) c.in_ok-session.session c.in_ok-session.ensures.over c.into_messages-messages.ensures.run c.into_messages-messages.ensures.complete
    (g.W.Write.contents c.args.out.now) (g.W.Write.contents c.write_messages.new.out) (g.W.Write.contents c.write_end.new.out) _ c.write_end.result c.into_messages-messages.ensures.fault lines c.write_end.ensures.answer c.write_end.ensures.written

pub returns-clause-left : goal.returns-clause-left
returns-clause-left g c =
    let lines : Appends (g.W.Write.contents c.args.out.now) (g.W.Write.contents c.write_messages.new.out) (message_lines c.in_ok-session.session.messages) =
    subst (λ messages. Appends (g.W.Write.contents c.args.out.now) (g.W.Write.contents c.write_messages.new.out) (message_lines messages)) c.into_messages-messages.ensures.messages c.in_ok-write_messages.ensures.ok in
    last_stopped (g.C.Read.remaining c.args.capture) c.in_ok-session.session c.in_ok-session.ensures.over c.into_messages-messages.ensures.run c.into_messages-messages.ensures.complete
    (g.W.Write.contents c.args.out.now) (g.W.Write.contents c.write_messages.new.out) (g.W.Write.contents c.write_end.new.out) _ c.write_end.result c.into_messages-messages.ensures.fault lines c.write_end.ensures.left

pub returns-in_err-write_messages-clause-cause : goal.returns-in_err-write_messages-clause-cause
returns-in_err-write_messages-clause-cause g c =
    output_cause (g.C.Read.remaining c.args.capture) c.in_err-write_messages.field-0.0 c.from_residual-in_err-write_messages.result
    (capture_over (g.C.Read.remaining c.args.capture) c.in_ok-session.session c.in_ok-session.ensures.over) c.from_residual-in_err-write_messages.ensures.1
