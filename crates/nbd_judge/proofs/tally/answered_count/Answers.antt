use Rattle.nbd_judge.proofs.{Common.{◌≡◌, ◌+◌, ◌<◌, Bool, List, length, sym, ◌∙◌, ap, arith, Asked, is_answered, report_of_request}, verdicts.CountLemmas.{none_there, one_counted, one_passed}, tally.answered_count.Goals.{in-Some+then-is_finished, in-Some+else-is_finished, in_default}}
use Rattle.nbd_judge.proofs.tally.answered_count.Goals as goal

pub loop-i-preserved : goal.loop-i-preserved
loop-i-preserved c =
    let counted : Asked → Bool = λ (a : Asked). is_answered a.outcome in
    let asked : List Asked = c.args.transcript.now.asked in
    let count : c.count-i-end.result ≡ length asked = c.count-i-end.ensures.count in
    let within : c.loop-i.i < length asked = omega arith in
    elim c.match-asked.branch [
      | in-Some+then-is_finished w ↦
          (let more = one_counted counted asked c.loop-i.i (report_of_request w.in-Some.one.now) (sym w.in-Some.ensures) (sym w.is_finished.ensures ∙ w.if-is_finished.true) in
          record { count = w.answered-is ∙ ap (λ n. n + 1) c.loop-i.invariant.count ∙ sym more; within = omega arith; least = omega arith })
      | in-Some+else-is_finished w ↦
          (let same = one_passed counted asked c.loop-i.i (report_of_request w.in-Some.one.now) (sym w.in-Some.ensures) (sym w.is_finished.ensures ∙ w.if-is_finished.false) in
          record { count = w.answered-is ∙ c.loop-i.invariant.count ∙ sym same; within = omega arith; least = omega arith })
      | in_default w ↦ absurd (none_there asked c.loop-i.i within (sym w.in_default.ensures))
    ]
