use Rattle.nbd_order.proofs.{Common.{◌≡◌, Some, sym, ◌∙◌, ap, arith, length, slice_get, Asked, report_of_request}, AddingLemmas.request_added, HereLemmas.{joined_nothing, nothing_joined}, LeavingLemmas.{at_next, none_missing}, touches.touches_of.Goals.{in-Some+in_ok-add_request, in_default}}
use Rattle.std.proofs.lemmas.List.{drop_all}
use Rattle.nbd_order.specs.internal.Here.{here_at, joined, requests_here, touches_here}
use Rattle.nbd_order.proofs.touches.touches_of.Goals as goal

pub loop-i-init : goal.loop-i-init
loop-i-init c = λ x.
    let all = here_at c.args.transcript.now.asked x in
    ap (λ items. joined (touches_here items x) all) c.new-touches.ensures.items ∙ nothing_joined all

pub loop-i-preserved : goal.loop-i-preserved
loop-i-preserved c =
    let asked = c.args.transcript.now.asked in
    let i = c.loop-i.i in
    elim c.match-asked.branch [
      | in-Some+in_ok-add_request w ↦ λ x.
          let a : Asked = report_of_request w.in-Some.one.now in
          let at : slice_get asked i ≡ Some a = sym (at_next asked i) ∙ sym w.in-Some.ensures in
          request_added asked x i a (touches_here c.match-asked.touches.items x) (touches_here c.loop-i.touches.items x) at
          (ap (λ v. touches_here v.items x) w.touches-is ∙ w.in_ok-add_request.ensures x)
          ∙ c.loop-i.invariant x
      | in_default w ↦ none_missing asked i c.count-i-end.result c.loop-i-test.true c.count-i-end.ensures.count w.in_default.ensures
    ]

pub returns : goal.returns
returns c = λ x.
    let asked = c.args.transcript.now.asked in
    let count : c.count-i-end.result ≡ length asked = c.count-i-end.ensures.count in
    sym (joined_nothing (touches_here c.loop-i.touches.items x))
    ∙ ap (λ rest. joined (touches_here c.loop-i.touches.items x) (requests_here c.loop-i.i rest x)) (sym (drop_all c.loop-i.i asked (omega (arith, count))))
    ∙ c.loop-i.invariant x
