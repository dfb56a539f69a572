use Rattle.nbd_judge.proofs.{Common.{◌≡◌, map, rules, subst, Bor, List, filter, nat_lt, filter_same, IsNonDecreasingBy-from_sort_by_key, IsPermutation, IsNonDecreasingBy, Piece, piece_offset, piece_size}, contents.SortLemmas.sorted_references}
use Rattle.nbd_judge.proofs.sorting.by_offset.Goals as goal

pub returns : goal.returns
returns c =
    let items : map (λ p. p.now) c.in_ok-sorted.sorted.items ≡ c.args.pieces.now = search rules in
    let kept : c.retain.new.self.items ≡ filter (λ (p : Bor Piece). nat_lt 0 (piece_size p.now)) c.in_ok-sorted.sorted.items = filter_same _ _ _ (λ x b f' k. search rules) _ _ c.retain.ensures.filtered in
    let rises : IsNonDecreasingBy (λ (p : Bor Piece). piece_offset p.now) c.sort_by_key.new.self.items =
    IsNonDecreasingBy-from_sort_by_key (λ (p : Bor Piece). piece_offset p.now) _ c.in_ok-sort_by_key.ensures.sorted (λ a r q k. search rules) in
    sorted_references c.args.pieces.now c.in_ok-sorted.sorted.items c.sort_by_key.new.self.items c.requires items
    (subst (λ (l : List (Bor Piece)). IsPermutation l c.sort_by_key.new.self.items) kept c.sort_by_key.ensures.permutation) rises
