use Rattle.nbd_judge.proofs.{Common.{◌≡◌, ◌+◌, ◌<◌, Bool, List, length, sym, ◌∙◌, ap, arith, Asked, is_amiss, report_of_request}, verdicts.CountLemmas.{none_there, one_counted, one_passed}, tally.improper_count.Goals.{in-Some+then-is_amiss, in-Some+else-is_amiss, in_default}}
use Rattle.nbd_judge.proofs.tally.improper_count.Goals as goal

pub loop-i-preserved : goal.loop-i-preserved
loop-i-preserved c =
    let counted : Asked → Bool = is_amiss c.args.profile in
    let asked : List Asked = c.args.transcript.now.asked in
    let count : c.count-i-end.result ≡ length asked = c.count-i-end.ensures.count in
    let within : c.loop-i.i < length asked = omega arith in
    elim c.match-asked.branch [
      | in-Some+then-is_amiss w ↦
          (let more = one_counted counted asked c.loop-i.i (report_of_request w.in-Some.one.now) (sym w.in-Some.ensures) (sym w.is_amiss.ensures ∙ w.if-is_amiss.true) in
          record { count = w.improper-is ∙ ap (λ n. n + 1) c.loop-i.invariant.count ∙ sym more; within = omega arith; least = omega arith })
      | in-Some+else-is_amiss w ↦
          (let same = one_passed counted asked c.loop-i.i (report_of_request w.in-Some.one.now) (sym w.in-Some.ensures) (sym w.is_amiss.ensures ∙ w.if-is_amiss.false) in
          record { count = w.improper-is ∙ c.loop-i.invariant.count ∙ sym same; within = omega arith; least = omega arith })
      | in_default w ↦ absurd (none_there asked c.loop-i.i within (sym w.in_default.ensures))
    ]
