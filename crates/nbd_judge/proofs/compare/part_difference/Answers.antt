use Rattle.nbd_judge.proofs.{Common.{ℕ, Option, Bor, List, length, map, rules, subst, IsLeast, Piece, AreInOrder, AreInside, DiffersInOneWithin}, contents.SortLemmas.{inside_those, least_in_part, sorted_there}}
use Rattle.nbd_judge.proofs.compare.part_difference.Goals as goal

pub difference_within-requires-clause-inside : goal.difference_within-requires-clause-inside
difference_within-requires-clause-inside g c =
    let s = sorted_there c.args.reads.now c.keep_sorted.new.reads c.args.request c.args.pieces.now c.index.result.now c.requires.sorted c.in_ok-keep_sorted.ensures.adds c.index.ensures in
    subst (λ (l : List (Bor Piece)). AreInside (g.C.Contents.size c.args.contents.now) (map (λ p. p.now) l)) (search rules)
    (inside_those (λ x. Unit {0}) (g.C.Contents.size c.args.contents.now) c.args.pieces.now (map (λ p. p.now) c.index.result.now.items) s.those c.requires.inside)

pub difference_within-requires-clause-in_order : goal.difference_within-requires-clause-in_order
difference_within-requires-clause-in_order g c =
    let s = sorted_there c.args.reads.now c.keep_sorted.new.reads c.args.request c.args.pieces.now c.index.result.now c.requires.sorted c.in_ok-keep_sorted.ensures.adds c.index.ensures in
    subst (λ (l : List (Bor Piece)). AreInOrder (map (λ p. p.now) l)) (search rules) s.in_order

pub returns-clause-least : goal.returns-clause-least
returns-clause-least g c =
    let byte : ℕ → Option ℕ = g.C.Contents.byte c.args.contents.now in
    let s = sorted_there c.args.reads.now c.keep_sorted.new.reads c.args.request c.args.pieces.now c.index.result.now c.requires.sorted c.in_ok-keep_sorted.ensures.adds c.index.ensures in
    least_in_part byte c.args.part c.args.pieces.now c.index.result.now.items c.difference_within.result s
    (subst (λ (l : List (Bor Piece)). IsLeast (DiffersInOneWithin byte (map (λ p. p.now) l) (length l) c.args.part) c.difference_within.result) (search rules) c.difference_within.ensures.least)
