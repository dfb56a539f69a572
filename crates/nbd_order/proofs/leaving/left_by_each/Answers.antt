use Rattle.nbd_order.proofs.{Common.{◌<◌, Option, Report, Exporting, FitsImage, sym, ◌∙◌, initial_of, start_byte, subst}, SettleLemmas.sure_held}
use Rattle.nbd_export.specs.Extents.{byte_of, size_of}
use Rattle.nbd_judge.proofs.contents.StartLemmas.{exporting_of}
use Rattle.nbd_order.proofs.leaving.left_by_each.Goals as goal

pub returns-in_ok-sweep-in-Ok : goal.returns-in_ok-sweep-in-Ok
returns-in_ok-sweep-in-Ok c =
    let r : Report = c.args.transcript.now in
    let initial = initial_of c.args.start in
    let e = exporting_of r.export c.in-Some.size c.in-Some.field-0-1 c.in-Some.ensures.export in
    let begun = rw c.in-Ok.is at c.in_ok-contents.ensures in (
      subst (λ (o : Option Exporting). FitsImage o initial) (sym e.1) (begun.2 e.0 e.2),
      (
        e.0,
        e.1,
        sure_held r c.sweep.new.contents (byte_of c.in-Ok.contents) (start_byte initial) (size_of c.in-Ok.contents) e.0.size c.sweep.ensures.size (begun.0 ∙ sym e.2) c.in_ok-sweep-in-Ok.ensures.done
            (λ x l. begun.1 x (subst (λ n. x < n) e.2 l)),
      ),
    )
