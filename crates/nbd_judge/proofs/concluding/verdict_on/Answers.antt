use Rattle.nbd_judge.proofs.{Common.{◌≡◌, ℕ, ◌<◌, Option, Exporting, sym, ◌∙◌, ap, subst, FitsImage, start_byte, byte_of, AreSameBelow, initial_of, size_of}, contents.StartLemmas.{report_of_conclusion, exporting_of}}
use Rattle.nbd_judge.proofs.concluding.verdict_on.Goals as goal

pub returns-in-Ok : goal.returns-in-Ok
returns-in-Ok c =
    let e = exporting_of c.args.transcript.now.export c.in-Some.size c.in-Some.field-0-1 c.in-Some.ensures.export in
    let sized : size_of c.args.transcript.now.export ≡ c.in-Some.size = ap size_of e.1 ∙ e.2 in
    let begun = rw c.in-Ok.is at c.in_ok-contents-2.ensures in
    let fits : FitsImage c.args.transcript.now.export (initial_of c.args.start) = subst (λ (o : Option Exporting). FitsImage o (initial_of c.args.start)) (sym e.1) (begun.2 e.0 e.2) in
    let same : AreSameBelow (size_of c.args.transcript.now.export) (byte_of c.in-Ok.contents) (start_byte (initial_of c.args.start)) =
    λ x l. begun.1 x (subst (λ (n : ℕ). x < n) sized l) in
    report_of_conclusion c.args.profile c.args.transcript.now c.export.ensures.facts c.args.order.now (byte_of c.in-Ok.contents) (initial_of c.args.start) fits same c.judge-in-Ok.result c.judge-in-Ok.ensures.judged
