use Rattle.nbd_judge.proofs.{Common.{map, subst, sym, length-map, IsLeast, DiffersInOneOf}, contents.SortLemmas.least_sorted}
use Rattle.nbd_judge.proofs.compare.first_difference.Goals as goal

pub returns-clause-least : goal.returns-clause-least
returns-clause-least g c =
    let byte = g.C.Contents.byte c.args.contents.now in
    let sorted = map (λ p. p.now) c.in_ok-sorted.sorted.items in
    let least = rw c.deref.ensures.value at c.least_difference.ensures.least in
    least_sorted byte c.args.pieces.now sorted c.least_difference.result c.in_ok-sorted.ensures
    (subst (λ n. IsLeast (DiffersInOneOf byte sorted n) c.least_difference.result) (sym (length-map c.in_ok-sorted.sorted.items (λ p. p.now))) least)
