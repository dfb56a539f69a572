use Rattle.nbd_capture.proofs.{Common.{List, ℕ, take, drop, sym, take_rest}, WriterLemmas.{one_more, plainly}}
use Rattle.std.proofs.Common.{take-append-drop}
use Rattle.nbd_capture.proofs.writing.write_whole.Goals as goal

pub loop-rest-preserved : goal.loop-rest-preserved
loop-rest-preserved g c =
    rw take_rest (one_more (λ (bytes : List ℕ). bytes) plainly _ (g.W.Write.contents c.loop-rest.out) _ c.args.bytes.now c.loop-rest.rest.now (take c.in-Ok.taken c.loop-rest.rest.now) (drop c.in-Ok.taken c.loop-rest.rest.now) c.loop-rest.invariant (sym (take-append-drop c.in-Ok.taken c.loop-rest.rest.now)) c.in-Ok.ensures.bytes)
