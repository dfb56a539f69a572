use Rattle.nbd_judge.proofs.{Common.{◌+◌, ◌-◌, ℕ, Option, Result, Ok, Err, OnOk, length, ap, sym, ◌∙◌, slice_range, Asked, bytes_from, overlay, report_of_request, Span}, contents.RangeLemmas.written}
use Rattle.nbd_judge.proofs.change.change.Goals as goal

after_ok : {A E : Type 0} {P Q : Type 0} (r : Result A E) → (P → Q) → OnOk r P → OnOk r Q
after_ok (Ok a) f p = f p
after_ok (Err e) f p = p

pub returns-in-1-clause-done : goal.returns-in-1-clause-done
returns-in-1-clause-done g c =
    let a : Asked = report_of_request c.args.one.now in
    let old : ℕ → Option ℕ = g.C.Contents.byte c.args.contents.now in
    let is = c.bytes_of.ensures ∙ ap (λ (s : Span). slice_range a.payload (s.offset - a.offset) (s.offset - a.offset + s.size)) c.served-span.ensures in
    after_ok c.put.result (λ done x l. done x l
    ∙ ap (λ (s : Span). overlay s.offset (length c.bytes_of.result.now) (bytes_from s.offset c.bytes_of.result.now) old x) c.served-span.ensures
    ∙ written c.args.part a c.requires.inside c.in-1.is (sym c.is_success.ensures ∙ c.if-is_success.true) (c.requires.servable.carried c.in-1.is) c.bytes_of.result.now is old x) c.put.ensures.done
