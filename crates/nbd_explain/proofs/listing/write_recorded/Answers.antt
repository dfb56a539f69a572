use Rattle.nbd_explain.proofs.NamedLemmas.{cause_of, named_of}
use Rattle.nbd_explain.proofs.listing.write_recorded.Goals as goal

pub returns-clause-written : goal.returns-clause-written
returns-clause-written g c =
    named_of (g.C.Read.remaining c.args.capture) c.in_ok-session.session c.write_names.result (g.W.Write.contents c.args.out.now) (g.W.Write.contents c.write_names.new.out)
    c.in_ok-session.ensures.over c.write_names.ensures.written

pub returns-clause-cause : goal.returns-clause-cause
returns-clause-cause g c = cause_of (g.C.Read.remaining c.args.capture) c.in_ok-session.session c.write_names.result c.in_ok-session.ensures.over c.write_names.ensures.cause
