use Rattle.nbd_judge.proofs.{Common.{ℕ, List, OnOk, Option, length, sym, subst, ◌∙◌, Some, IfOk-weaker, IsLeast, Piece, report_of_request, AddsSorted, DiffersInOneOf, DiffersInOneWithin}, contents.CompareLemmas.{compared_of, wrong_part, wrong_read}}
use Rattle.nbd_judge.proofs.compare.wrong.Goals as goal

pub returns-in-Some-clause-least : goal.returns-in-Some-clause-least
returns-in-Some-clause-least g c =
    let byte : ℕ → Option ℕ = g.C.Contents.byte c.args.contents.now in
    let well = sym c.is_success.ensures ∙ c.if-is_success.true in
    rw c.in-Some.is (IfOk-weaker c.part_difference.result _ _ (λ found least.
    wrong_part (g.C.Contents.size c.args.contents.now) (report_of_request c.args.one.now) byte (compared_of c.args.one.now.command (sym c.is_compared.ensures ∙ c.if-is_compared.true)) well c.requires.servable (Some c.in-Some.part) found
    (subst (λ (ps : List Piece). IsLeast (DiffersInOneWithin byte ps (length ps) c.in-Some.part) found) c.deref.ensures least))
    c.part_difference.ensures.least)

pub returns-in-None-clause-least : goal.returns-in-None-clause-least
returns-in-None-clause-least g c =
    let byte : ℕ → Option ℕ = g.C.Contents.byte c.args.contents.now in
    let well = sym c.is_success.ensures ∙ c.if-is_success.true in
    rw c.in-None.is (IfOk-weaker c.first_difference.result _ _ (λ found least.
    wrong_read (g.C.Contents.size c.args.contents.now) (report_of_request c.args.one.now) byte (compared_of c.args.one.now.command (sym c.is_compared.ensures ∙ c.if-is_compared.true)) well c.requires.servable found
    (subst (λ (ps : List Piece). IsLeast (DiffersInOneOf byte ps (length ps)) found) c.deref-in-None.ensures least))
    c.first_difference.ensures.least)

pub returns-in-Some-clause-sorted : goal.returns-in-Some-clause-sorted
returns-in-Some-clause-sorted g c =
    subst (λ (ps : List Piece). OnOk c.part_difference.result (AddsSorted c.args.reads.now c.part_difference.new.reads c.args.entry.request ps)) c.deref.ensures c.part_difference.ensures.sorted
