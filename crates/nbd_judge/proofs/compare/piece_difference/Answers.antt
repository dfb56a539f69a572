use Rattle.nbd_judge.proofs.{Common.{ℕ, List, length, sym, subst, Piece, DiffersIn, IsLeast, bytes_from, DiffersInPiece}, contents.CompareLemmas.{bytes_difference, hole_difference}}
use Rattle.nbd_judge.proofs.compare.piece_difference.Goals as goal

pub returns-in-Bytes-clause-least : goal.returns-in-Bytes-clause-least
returns-in-Bytes-clause-least g c =
    let byte = g.C.Contents.byte c.args.contents.now in
    subst (λ (p : Piece). IsLeast (DiffersInPiece byte p) c.differs.result) (sym c.in-Bytes.is)
    (bytes_difference byte c.in-Bytes.offset c.in-Bytes.bytes c.differs.result
    (subst (λ (bs : List ℕ). IsLeast (DiffersIn byte c.in-Bytes.offset (length bs) (bytes_from c.in-Bytes.offset bs)) c.differs.result) c.as_slice.ensures c.differs.ensures))

pub returns-in-Hole-clause-least : goal.returns-in-Hole-clause-least
returns-in-Hole-clause-least g c =
    let byte = g.C.Contents.byte c.args.contents.now in
    subst (λ (p : Piece). IsLeast (DiffersInPiece byte p) c.differs_zero.result) (sym c.in-Hole.is)
    (hole_difference byte c.in-Hole.offset c.in-Hole.size c.differs_zero.result c.differs_zero.ensures.least)
