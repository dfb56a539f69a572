use Rattle.nbd_judge.proofs.{Common.{◌≡◌, ◌+◌, ◌≤◌, ◌∙◌, ℕ, IsTrue, Option, Bor, List, arith, length, map, subst, sym, length-map, IsLeast, Piece, is_in, piece_offset, piece_size, DiffersInOneWithin, DiffersWithin}, contents.{CompareLemmas.at_reference, RangeLemmas.one_within, SortLemmas.{inside_those, least_references}}}
use Rattle.nbd_judge.proofs.compare.difference_within.Goals as goal

pub piece_difference_within-requires : goal.piece_difference_within-requires
piece_difference_within-requires g c =
    let piece = c.piece-item.result.now in
    subst (λ (n : ℕ). piece_offset piece + piece_size piece ≤ n) (sym c.loop-piece.invariant.size)
    (inside_those _ (g.C.Contents.size c.args.contents.now) (map (λ p. p.now) c.args.pieces.now) (map (λ p. p.now) c.meeting-met.result.now) c.meeting-met.ensures c.requires.inside
    c.loop-piece.piece-index piece (at_reference c.meeting-met.result.now c.loop-piece.piece-index c.piece-item.result c.loop-piece-test.true c.piece-item.is))

pub loop-piece-preserved : goal.loop-piece-preserved
loop-piece-preserved g c =
    let byte : ℕ → Option ℕ = g.C.Contents.byte c.args.contents.now in
    let met : List Piece = map (λ (p : Bor Piece). p.now) c.meeting-met.result.now in
    let at = at_reference c.meeting-met.result.now c.loop-piece.piece-index c.piece-item.result c.loop-piece-test.true c.piece-item.is in
    record {
      least = subst (IsLeast (DiffersInOneWithin byte met (c.loop-piece.piece-index + 1) c.args.part)) (sym c.lesser-found.ensures)
          (one_within byte met c.loop-piece.piece-index c.piece-item.result.now c.args.part c.loop-piece.found c.piece_difference_within.result at c.loop-piece.invariant.least
          (subst (λ (f : ℕ → Option ℕ). IsLeast (DiffersWithin f c.piece-item.result.now c.args.part) c.piece_difference_within.result) c.loop-piece.invariant.bytes c.piece_difference_within.ensures.least));
      size = c.piece_difference_within.ensures.size ∙ c.loop-piece.invariant.size;
      bytes = c.piece_difference_within.ensures.bytes ∙ c.loop-piece.invariant.bytes;
    }

pub returns-clause-least : goal.returns-clause-least
returns-clause-least g c =
    let byte : ℕ → Option ℕ = g.C.Contents.byte c.args.contents.now in
    let pieces : List Piece = map (λ (p : Bor Piece). p.now) c.args.pieces.now in
    let end : c.loop-piece.piece-index ≡ length c.meeting-met.result.now = omega arith in
    subst (λ n. IsLeast (DiffersInOneWithin byte pieces n c.args.part) c.loop-piece.found) (length-map c.args.pieces.now (λ p. p.now))
    (least_references byte c.args.part (λ x. IsTrue (is_in c.args.part.offset c.args.part.length x)) pieces c.meeting-met.result.now c.loop-piece.piece-index c.loop-piece.found (λ x q. q) c.meeting-met.ensures end c.loop-piece.invariant.least)
