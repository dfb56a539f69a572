use Rattle.nbd_explain.proofs.{Common.{subst, Appends}, ComparingLemmas.written_of_known}
use Rattle.nbd_export.specs.Held.{held}
use Rattle.nbd_explain.proofs.comparing.write_compared.Goals as goal

pub returns-clause-written : goal.returns-clause-written
returns-clause-written g c =
    written_of_known (g.A.Read.remaining c.args.image.now) (held c.args.contents.now) c.in_ok-compared.compared c.in_ok-text.text.bytes.items (g.W.Write.contents c.args.out.now) (g.W.Write.contents c.write_whole.new.out) c.agrees.result
    c.in_ok-compared.ensures.compared c.in_ok-text.ensures (subst (Appends (g.W.Write.contents c.args.out.now) (g.W.Write.contents c.write_whole.new.out)) c.as_bytes.ensures.value c.in_ok-write_whole.ensures.ok) c.agrees.ensures
