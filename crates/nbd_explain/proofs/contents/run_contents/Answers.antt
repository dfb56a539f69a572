use Rattle.nbd_explain.proofs.{ExplainedLemmas.map_ok, ContentsLemmas.writes_contents}
use Rattle.nbd_explain.proofs.contents.run_contents.Goals as goal

pub returns-clause-written : goal.returns-clause-written
returns-clause-written g c =
    map_ok c.write_left.result (λ answer told. λ initial is.
    writes_contents c.args.profile g.O.Read.remaining g.A.Read.remaining (g.C.Read.remaining c.args.capture) c.args.order initial c.args.against c.in_ok-left.left (g.W.Write.contents c.args.out.now) (g.W.Write.contents c.write_left.new.out)
    answer (c.in_ok-left.ensures.left initial is) told)
    c.write_left.ensures.told
