use Rattle.nbd_lines.proofs.{Common.{◌∷◌, ◌++◌, ◌-◌, codes, decimal, line_feed, on_err_weaker, space, subst, [], AppendsPrefix}, PieceTextLemmas.head_line}
use Rattle.nbd_lines.proofs.contents_writing.write_run.Goals as goal

pub returns-in-Unknown-clause-err : goal.returns-in-Unknown-clause-err
returns-in-Unknown-clause-err g c =
    let n = c.args.to - c.args.from in
    rw c.in-Unknown.is (on_err_weaker c.write_count.result
    (λ (end : AppendsPrefix (g.W.Write.contents c.args.out.now) (g.W.Write.contents c.write_count.new.out) ((codes "unknown " ++ (decimal c.args.from ++ space ∷ [])) ++ (decimal n ++ line_feed ∷ []))).
    subst (AppendsPrefix (g.W.Write.contents c.args.out.now) (g.W.Write.contents c.write_count.new.out)) (head_line (codes "unknown ") (decimal c.args.from) (decimal n ++ line_feed ∷ [])) end)
    c.write_count.ensures.err)

pub returns-in-Zeroes-clause-err : goal.returns-in-Zeroes-clause-err
returns-in-Zeroes-clause-err g c =
    let n = c.args.to - c.args.from in
    rw c.in-Zeroes.is (on_err_weaker c.write_count-in-Zeroes.result
    (λ (end : AppendsPrefix (g.W.Write.contents c.args.out.now) (g.W.Write.contents c.write_count-in-Zeroes.new.out) ((codes "zero " ++ (decimal c.args.from ++ space ∷ [])) ++ (decimal n ++ line_feed ∷ []))).
    subst (AppendsPrefix (g.W.Write.contents c.args.out.now) (g.W.Write.contents c.write_count-in-Zeroes.new.out)) (head_line (codes "zero ") (decimal c.args.from) (decimal n ++ line_feed ∷ [])) end)
    c.write_count-in-Zeroes.ensures.err)
