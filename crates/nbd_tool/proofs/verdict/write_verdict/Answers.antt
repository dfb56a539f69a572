use Rattle.nbd_tool.proofs.Common.{◌∙◌, inl, subst, err_from_is_err_and, AppendsPrefix}
use Rattle.nbd_tool.proofs.verdict.write_verdict.Goals as goal

pub returns-in_err-write_whole-clause-left : goal.returns-in_err-write_whole-clause-left
returns-in_err-write_whole-clause-left g c =
    let p = err_from_is_err_and c.from_residual-in_err-write_whole.result c.from_residual-in_err-write_whole.ensures.1 in
    rw p.1 (inl (p.2, subst (AppendsPrefix (g.W.Write.contents c.args.out.now) (g.W.Write.contents c.write_whole.new.out)) (c.as_bytes.ensures.value ∙ c.in_ok-line.ensures) c.in_err-write_whole.ensures.err))
