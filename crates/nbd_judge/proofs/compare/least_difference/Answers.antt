use Rattle.nbd_judge.proofs.{Common.{ℕ, Option, length, map, sym, ◌∙◌, subst, arith, ◌≡◌, ◌+◌, ◌≤◌, IsLeast, piece_offset, piece_size, DiffersInOneOf, DiffersInPiece}, contents.CompareLemmas.{at_reference, one_more}}
use Rattle.nbd_judge.proofs.compare.least_difference.Goals as goal

pub piece_difference-requires : goal.piece_difference-requires
piece_difference-requires g c =
    let piece = c.piece-item.result.now in
    subst (λ (n : ℕ). piece_offset piece + piece_size piece ≤ n) (sym c.loop-piece.invariant.size)
    (c.requires c.loop-piece.piece-index piece
    (at_reference c.args.pieces.now c.loop-piece.piece-index c.piece-item.result c.loop-piece-test.true c.piece-item.is))

pub loop-piece-preserved : goal.loop-piece-preserved
loop-piece-preserved g c =
    let byte : ℕ → Option ℕ = g.C.Contents.byte c.args.contents.now in
    let pieces = map (λ p. p.now) c.args.pieces.now in
    let at = at_reference c.args.pieces.now c.loop-piece.piece-index c.piece-item.result c.loop-piece-test.true c.piece-item.is in
    record {
      least = subst (IsLeast (DiffersInOneOf byte pieces (c.loop-piece.piece-index + 1))) (sym c.lesser-found.ensures)
          (one_more byte pieces c.loop-piece.piece-index c.piece-item.result.now at c.loop-piece.found c.piece_difference.result c.loop-piece.invariant.least
          (subst (λ (f : ℕ → Option ℕ). IsLeast (DiffersInPiece f c.piece-item.result.now) c.piece_difference.result) c.loop-piece.invariant.bytes c.piece_difference.ensures.least));
      size = c.piece_difference.ensures.size ∙ c.loop-piece.invariant.size;
      bytes = c.piece_difference.ensures.bytes ∙ c.loop-piece.invariant.bytes;
    }

pub returns-clause-least : goal.returns-clause-least
returns-clause-least g c =
    let e : c.loop-piece.piece-index ≡ length c.args.pieces.now = omega arith in
    subst (λ n. IsLeast (DiffersInOneOf (g.C.Contents.byte c.args.contents.now) (map (λ p. p.now) c.args.pieces.now) n) c.loop-piece.found) e c.loop-piece.invariant.least
