use Rattle.nbd_order.proofs.{Common.{sym, ◌∙◌, ap, if◌then◌else◌, is_in, report_of_request, Asked, Span}, StretchLemmas.touches_push}
use Rattle.nbd_order.specs.{Sure.is_read, declared.here.Here.Here, internal.Here.{here_if, joined, of_change, pieces_here, touches_here}}
use Rattle.nbd_order.proofs.touches.add_request.Goals as goal

pub returns-in_ok-push : goal.returns-in_ok-push
returns-in_ok-push c = λ x.
    let a : Asked = report_of_request c.args.one.now in
    let k = c.args.number in
    ap (λ items. touches_here items x) c.in_ok-push.ensures.items
    ∙ touches_push c.args.touches.now.items (record { span = c.range_of.result; here = c.of_change.result }) x
    ∙ ap (λ (h : Here). joined (touches_here c.args.touches.now.items x) h)
    (ap (λ (s : Span). here_if (is_in s.offset s.size x) c.of_change.result) c.range_of.ensures ∙ ap (here_if (is_in a.offset a.length x)) c.of_change.ensures
    ∙ sym (ap (λ b. if b then here_if (is_in a.offset a.length x) (of_change k a) else here_if (is_read a) (pieces_here k 0 a.pieces x)) (sym c.is_change.ensures ∙ c.if-is_change.true)))
