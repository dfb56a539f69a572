use Rattle.nbd_judge.proofs.{Common.{inr, IsFaultless}, verdicts.AnswerLemmas.order_unserved}
use Rattle.nbd_judge.proofs.judging.judge.Goals as goal

pub returns-clause-judged : goal.returns-clause-judged
returns-clause-judged g c =
    let faultless = rw c.in_default.is at c.in_ok-entry.ensures in
    let none = rw c.in_default-2.is at c.in_ok-request.ensures.wrong in (
      faultless,
      (λ i x w. none i (x, w)),
      c.count-requests.ensures.count,
      c.answered_count.ensures,
      c.improper_count.ensures,
    )

pub returns-in-Some-clause-unserved : goal.returns-in-Some-clause-unserved
returns-in-Some-clause-unserved g c = order_unserved c.args.profile c.args.transcript.now c.args.order.now c.in-Some.entry c.in-Some.fault (rw c.in-Some.is at c.in_ok-entry.ensures)

pub replay-requires-clause-well : goal.replay-requires-clause-well
replay-requires-clause-well g c = λ i b. (let faultless : IsFaultless c.args.profile c.args.transcript.now c.args.order.now = rw c.in_default.is at c.in_ok-entry.ensures in faultless.none_bad i (inr (inr b)))

pub returns-in-Some-2-clause-judged : goal.returns-in-Some-2-clause-judged
returns-in-Some-2-clause-judged g c =
    let faultless : IsFaultless c.args.profile c.args.transcript.now c.args.order.now = rw c.in_default.is at c.in_ok-entry.ensures in
    c.wrong_of.ensures.judged c.args.profile c.args.order.now _ faultless (rw c.in-Some-2.is at c.in_ok-request.ensures.wrong)
