use Rattle.nbd_lines.proofs.{Common.{◌∷◌, ◌++◌, [], err_from_is_err_and, on_err_weaker, decimal, line_feed, space, AppendsPrefix, codes, encode_lower, subst}, PieceTextLemmas.head_line}
use Rattle.nbd_capture.proofs.WriterLemmas.{prefix_then, then_prefix}
use Rattle.nbd_lines.proofs.contents_writing.write_bytes.Goals as goal

pub returns-in_err-write_head-clause-err : goal.returns-in_err-write_head-clause-err
returns-in_err-write_head-clause-err g c =
    let p = err_from_is_err_and c.from_residual.result c.from_residual.ensures.1 in
    rw p.1 (subst (AppendsPrefix _ _) (head_line (codes "data ") (decimal c.args.offset) (encode_lower c.args.bytes.now ++ line_feed ∷ [])) (prefix_then _ _ (codes "data " ++ (decimal c.args.offset ++ space ∷ [])) ((encode_lower c.args.bytes.now) ++ (line_feed ∷ [])) c.in_err-write_head.ensures.err))

pub returns-in_err-write_digits-clause-err : goal.returns-in_err-write_digits-clause-err
returns-in_err-write_digits-clause-err g c =
    let p = err_from_is_err_and c.from_residual-in_err-write_digits.result c.from_residual-in_err-write_digits.ensures.1 in
    rw p.1 (subst (AppendsPrefix _ _) (head_line (codes "data ") (decimal c.args.offset) (encode_lower c.args.bytes.now ++ line_feed ∷ [])) (then_prefix _ (g.W.Write.contents c.write_head.new.out) _ (codes "data " ++ (decimal c.args.offset ++ space ∷ [])) ((encode_lower c.args.bytes.now) ++ (line_feed ∷ [])) c.in_ok-write_head.ensures.ok
    (prefix_then _ _ (encode_lower c.args.bytes.now) (line_feed ∷ []) c.in_err-write_digits.ensures.err)))

pub returns-clause-err : goal.returns-clause-err
returns-clause-err g c =
    on_err_weaker c.write_whole.result
    (λ (end : AppendsPrefix (g.W.Write.contents c.write_digits.new.out) (g.W.Write.contents c.write_whole.new.out) (line_feed ∷ [])).
    (subst (AppendsPrefix _ _) (head_line (codes "data ") (decimal c.args.offset) (encode_lower c.args.bytes.now ++ line_feed ∷ [])) (then_prefix _ (g.W.Write.contents c.write_head.new.out) _ (codes "data " ++ (decimal c.args.offset ++ space ∷ [])) ((encode_lower c.args.bytes.now) ++ (line_feed ∷ [])) c.in_ok-write_head.ensures.ok
    (then_prefix _ (g.W.Write.contents c.write_digits.new.out) _ (encode_lower c.args.bytes.now) (line_feed ∷ []) c.in_ok-write_digits.ensures.ok end))))
    c.write_whole.ensures.err
