use Rattle.nbd_session.proofs.{Common.{sym, subst, ◌∙◌, IsReported}, judge.RefusalLemmas.{ends, ends_well}, reports.ReportLemmas.{reported, sound_told}}
use Rattle.nbd_session.proofs.monitor.Monitor.finish.Goals as goal

pub returns-in-Some-clause-wire : goal.returns-in-Some-clause-wire
returns-in-Some-clause-wire c = λ r f. ends c.args.self r f c.in-Some.fault (sym (c.fault_at_end.ensures r f) ∙ c.in-Some.is)

pub transcript-requires : goal.transcript-requires
transcript-requires c =
    let r = c.requires.0 in
    let f = c.requires.1 in
    let well = ends_well c.args.self r f (sym (c.fault_at_end.ensures r f) ∙ c.in-None.is) in
    sound_told c.args.self r f well.0 well.1 well.2

pub returns-in-None-clause-report : goal.returns-in-None-clause-report
returns-in-None-clause-report c = λ r f.
    let well = ends_well c.args.self r f (sym (c.fault_at_end.ensures r f) ∙ c.in-None.is) in
    subst (IsReported r) (sym c.transcript.ensures) (reported c.args.self r f well.0 well.1 well.2)
