use Rattle.nbd_order.proofs.{Common.{ℕ, ◌<◌, Option, sym, ◌∙◌, subst}, LeavingLemmas.left_of_start}
use Rattle.nbd_wire.specs.Prelude.{FitsImage, Exporting}
use Rattle.nbd_export.specs.Extents.{byte_of, size_of}
use Rattle.nbd_judge.specs.Beginnings.{initial_of}
use Rattle.nbd_judge.proofs.contents.StartLemmas.{exporting_of}
use Rattle.nbd_order.proofs.leaving.left_by.Goals as goal

pub returns-in-Ok : goal.returns-in-Ok
returns-in-Ok c =
    let e = exporting_of c.args.transcript.now.export c.in-Some.size c.in-Some.field-0-1 c.in-Some.ensures.export in
    let begun = rw c.in-Ok.is at c.in_ok-contents.ensures in
    let fits : FitsImage c.args.transcript.now.export (initial_of c.args.start) = subst (λ (o : Option Exporting). FitsImage o (initial_of c.args.start)) (sym e.1) (begun.2 e.0 e.2) in
    left_of_start c.args.profile c.args.transcript.now c.export.ensures.facts c.args.order.now (initial_of c.args.start) (byte_of c.in-Ok.contents) (size_of c.in-Ok.contents) e.0 e.1 (e.2 ∙ sym begun.0)
    fits (λ x l. begun.1 x (subst (λ (n : ℕ). x < n) begun.0 l)) c.left_on.result c.left_on.ensures
