use Rattle.nbd_explain.proofs.{Common.arith, CountLemmas.{counted_more, counted_none}}
use Rattle.nbd_export.specs.Extents.{byte_of}
use Rattle.nbd_explain.proofs.comparing.known_count.Goals as goal

pub loop-at-init : goal.loop-at-init
loop-at-init c = record {
  within = omega arith;
  counted = counted_none (byte_of c.args.contents.now);
  few = omega arith;
}

pub loop-at-preserved : goal.loop-at-preserved
loop-at-preserved c = record {
  within = omega arith;
  counted = counted_more (byte_of c.args.contents.now) c.loop-at.at c.known_from-known.result.1 c.loop-at.count c.known_from-known.result.0 (omega arith) c.loop-at.invariant.counted c.known_from-known.ensures.counted;
  few = omega arith;
}
