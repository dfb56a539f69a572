use Rattle.std.proofs.lemmas.Option.{IfSome_then}
use Rattle.nbd_explain.proofs.comparing.comparison_by_bytes.Goals as goal

pub returns-clause-compared : goal.returns-clause-compared
returns-clause-compared g c =
    IfSome_then (g.A.Read.remaining c.args.image.now) c.in_ok-count.ensures.read (λ bytes read. c.compared_with.ensures bytes read.0 read.1)
