use Rattle.nbd_state.proofs.{Common.{◌≡◌, ◌∷◌, [], arith, subst, rules, piece_offset, piece_size, Span, HasMore, IsIndex, size_from}, IndexLemmas.{index-first, index-more, only-piece}, index.SpanIndex.with.Goals.{then-is_empty+in-len1+in_ok-insert+else-not-branch, else-is_empty}}
use Rattle.nbd_state.proofs.index.SpanIndex.with.Goals as goal

pub returns-then-branch : goal.returns-then-branch
returns-then-branch c = λ some.
    let indexed : IsIndex (size_from c.if-is_empty.index.sizes) c.args.pieces.now = elim c.if-is_empty.branch [
      | then-is_empty+in-len1+in_ok-insert+else-not-branch w ↦
          (let alone : c.args.pieces.now ≡ w.first-item.result ∷ [] = only-piece c.args.pieces.now w.first-item.result (omega (arith, w.in-len1.len_at_least, w.in-len1.len_below)) w.first-item.is in
          let more : HasMore (size_from c.args.self.sizes) (size_from w.insert.new.self.sizes) (piece_offset w.first-item.result) (piece_size w.first-item.result) =
          subst (λ (s : Span). HasMore (size_from c.args.self.sizes) (size_from w.insert.new.self.sizes) s.offset s.size) w.of.ensures (w.in_ok-insert.ensures.taken w.if-not-branch.false).2 in
          rw (w.index-is, alone) (index-first c.args.self.sizes (size_from w.insert.new.self.sizes) w.first-item.result (search rules) more))
      | else-is_empty w ↦ rw w.index-is (c.requires (search rules))
    ] in
    index-more (size_from c.if-is_empty.index.sizes) (size_from c.insert-2.new.self.sizes) c.args.pieces.now c.args.piece.now indexed
    (subst (λ (s : Span). HasMore (size_from c.if-is_empty.index.sizes) (size_from c.insert-2.new.self.sizes) s.offset s.size) c.of-2.ensures (c.in_ok-insert-2.ensures.taken c.if-branch.true).2)
