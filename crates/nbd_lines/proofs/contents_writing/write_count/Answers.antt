use Rattle.nbd_lines.proofs.Common.{arith, ◌∷◌, ◌++◌, [], err_from_is_err_and, on_err_weaker, decimal, line_feed, space, AppendsPrefix}
use Rattle.nbd_capture.proofs.WriterLemmas.{prefix_then, then_prefix}
use Rattle.nbd_lines.proofs.contents_writing.write_count.Goals as goal

pub returns-in_err-write_head-clause-err : goal.returns-in_err-write_head-clause-err
returns-in_err-write_head-clause-err g c = grind (arith, err_from_is_err_and, prefix_then)

pub returns-in_err-write_number-clause-err : goal.returns-in_err-write_number-clause-err
returns-in_err-write_number-clause-err g c =
    let p = err_from_is_err_and c.from_residual-in_err-write_number.result c.from_residual-in_err-write_number.ensures.1 in
    rw p.1 (then_prefix _ (g.W.Write.contents c.write_head.new.out) _ (c.args.word.now ++ (decimal c.args.offset ++ space ∷ [])) ((decimal c.args.len) ++ (line_feed ∷ [])) c.in_ok-write_head.ensures.ok
    (prefix_then _ _ (decimal c.args.len) (line_feed ∷ []) c.in_err-write_number.ensures.err))

pub returns-clause-err : goal.returns-clause-err
returns-clause-err g c =
    on_err_weaker c.write_whole.result
    (λ (end : AppendsPrefix (g.W.Write.contents c.write_number.new.out) (g.W.Write.contents c.write_whole.new.out) (line_feed ∷ [])).
    (then_prefix _ (g.W.Write.contents c.write_head.new.out) _ (c.args.word.now ++ (decimal c.args.offset ++ space ∷ [])) ((decimal c.args.len) ++ (line_feed ∷ [])) c.in_ok-write_head.ensures.ok
    (then_prefix _ (g.W.Write.contents c.write_number.new.out) _ (decimal c.args.len) (line_feed ∷ []) c.in_ok-write_number.ensures.ok end)))
    c.write_whole.ensures.err
