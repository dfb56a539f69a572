use Rattle.nbd_judge.proofs.{Common.{rules, ◌+◌, ◌-◌, Bor, nat_le, nat_lt, length, take, drop, List, IsNonDecreasingBy-drop, IsNonDecreasingBy-take, IsPartitionPoint-from_clause, IsPartitionedBy-leb, IsPartitionedBy-ltb, Piece, piece_offset, piece_size}, contents.SortLemmas.{begins_rise, ends_rise, those_between}}
use Rattle.nbd_judge.proofs.sorting.meeting.Goals as goal

pub returns : goal.returns
returns c =
    let ps : List (Bor Piece) = c.args.pieces.now in
    let before = c.partition_point-before.result in
    let ends = IsPartitionedBy-leb (λ (p : Bor Piece). piece_offset p.now + piece_size p.now) ps c.args.part.offset (ends_rise ps c.requires) in
    let first = IsPartitionPoint-from_clause (λ (p : Bor Piece). nat_le (piece_offset p.now + piece_size p.now) c.args.part.offset) _ _ c.partition_point-before.ensures.partitioned ends (λ a r q k. search rules) in
    let begins = IsNonDecreasingBy-take (λ (p : Bor Piece). piece_offset p.now - c.args.part.offset) (length ps - before) (drop before ps)
    (IsNonDecreasingBy-drop (λ (p : Bor Piece). piece_offset p.now - c.args.part.offset) before ps (begins_rise ps c.args.part.offset c.requires)) in
    let last = IsPartitionPoint-from_clause (λ (p : Bor Piece). nat_lt (piece_offset p.now - c.args.part.offset) c.args.part.length) _ _ c.partition_point-count.ensures.partitioned
    (IsPartitionedBy-ltb (λ (p : Bor Piece). piece_offset p.now - c.args.part.offset) (take (length ps - before) (drop before ps)) c.args.part.length begins) (λ a r q k. search rules) in
    those_between ps before c.partition_point-count.result c.partition_point-before.ensures.bound c.partition_point-count.ensures.bound c.args.part c.requires first last
