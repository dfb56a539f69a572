use Rattle.nbd_export.proofs.{Common.{arith, byte_of}, ExtentLemmas.known_more}
use Rattle.nbd_export.proofs.extents.Extents.read_known.Goals as goal

pub loop-done-preserved : goal.loop-done-preserved
loop-done-preserved c = record {
  bytes = λ i l. let fits = c.type_inv.into i in omega (arith, fits);
  few = omega (arith, c.overwrite.auto.bytes, c.known_at-known.ensures.few);
  known = known_more (byte_of c.args.self.now) c.args.offset c.loop-done.done c.loop-done.into c.overwrite.new.bytes c.known_at-known.result.now
      c.loop-done.invariant.known c.overwrite.ensures.before c.overwrite.ensures.inside c.known_at-known.ensures.known;
}
