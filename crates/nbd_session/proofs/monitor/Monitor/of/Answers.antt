use Rattle.nbd_session.proofs.{Common.{None, refl}, judge.BeginningLemmas.begins}
use Rattle.nbd_session.proofs.monitor.Monitor.of.Goals as goal

pub returns : goal.returns
returns c = begins c.args.profile (record { alloc = c.args.alloc; state = c.of.result; client = c.new.result; server = c.new-2.result; counted = 0; taken = 0; closed = None }) refl c.of.ensures c.new.ensures c.new-2.ensures refl refl
