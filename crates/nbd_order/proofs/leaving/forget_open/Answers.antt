use Rattle.nbd_order.proofs.{Common.{ℕ, Option, refl, sym, ◌∙◌, ap, subst}, LeavingLemmas.{at_next, none_missing, step_closed, step_open}, leaving.forget_open.Goals.{in-Some+then-is_open+in_ok-erase, in-Some+else-is_open, in_default}}
use Rattle.std.specs.Prelude.{◌<◌, ◌≤◌}
use Rattle.std.proofs.lemmas.List.{drop_all}
use Rattle.nbd_state.specs.Transcripts.{report_of_request}
use Rattle.nbd_order.specs.Leaving.{forgotten}
use Rattle.nbd_order.proofs.leaving.forget_open.Goals as goal

pub loop-i-init : goal.loop-i-init
loop-i-init g c = record { size = refl; done = λ x l. refl }

pub returns-in_err-erase-clause-size : goal.returns-in_err-erase-clause-size
returns-in_err-erase-clause-size g c = c.erase.ensures.size ∙ c.loop-i.invariant.size

pub loop-i-preserved : goal.loop-i-preserved
loop-i-preserved g c =
    let asked = c.args.transcript.now.asked in
    let i = c.loop-i.i in
    let inv = c.loop-i.invariant in
    let old : ℕ → Option ℕ = g.C.Contents.byte c.loop-i.contents in
    let new : ℕ → Option ℕ = g.C.Contents.byte c.match-asked.contents in
    elim c.match-asked.branch [
      | in-Some+then-is_open+in_ok-erase w ↦ record {
        size = ap g.C.Contents.size w.contents-is ∙ w.erase.ensures.size ∙ inv.size;
        done = λ x l. step_open asked i (report_of_request w.in-Some.one.now) (sym (at_next asked i) ∙ sym w.in-Some.ensures) x old new (sym w.is_open.ensures ∙ w.if-is_open.true)
            (ap (λ s. g.C.Contents.byte s x) w.contents-is ∙ (rw w.range_of.ensures at w.in_ok-erase.ensures.done) x (subst (λ (n : ℕ). x < n) (sym inv.size) l))
            ∙ inv.done x l;
      }
      | in-Some+else-is_open w ↦ record {
        size = ap g.C.Contents.size w.contents-is ∙ inv.size;
        done = λ x l. step_closed asked i (report_of_request w.in-Some.one.now) (sym (at_next asked i) ∙ sym w.in-Some.ensures) x old new (sym w.is_open.ensures ∙ w.if-is_open.false)
            (ap (λ s. g.C.Contents.byte s x) w.contents-is)
            ∙ inv.done x l;
      }
      | in_default w ↦ none_missing asked i c.count-i-end.result c.loop-i-test.true c.count-i-end.ensures.count w.in_default.ensures
    ]

pub returns-clause-size : goal.returns-clause-size
returns-clause-size g c = c.loop-i.invariant.size

pub returns-clause-done : goal.returns-clause-done
returns-clause-done g c = λ x l.
    ap (λ rest. forgotten rest (g.C.Contents.byte c.loop-i.contents) x) (sym (drop_all c.loop-i.i c.args.transcript.now.asked (subst (λ (n : ℕ). n ≤ c.loop-i.i) c.count-i-end.ensures.count c.loop-i-test.false)))
    ∙ c.loop-i.invariant.done x l
