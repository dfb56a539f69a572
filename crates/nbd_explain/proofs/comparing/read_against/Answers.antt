use Rattle.nbd_explain.proofs.{Common.{sym, rules, take}, ComparingLemmas.{compared_more, compared_nothing}}
use Rattle.nbd_explain.proofs.comparing.read_against.Goals as goal

pub loop-count-init : goal.loop-count-init
loop-count-init g c = record {
  read = compared_nothing (g.A.Read.remaining c.args.image.now) c.args.contents.now;
  portion = search rules;
}

pub loop-count-preserved : goal.loop-count-preserved
loop-count-preserved g c = record {
  read = compared_more (g.A.Read.remaining c.args.image.now) (g.A.Read.remaining c.loop-count.image) (g.A.Read.remaining c.read.new.self) c.args.contents.now c.loop-count.count c.in-Ok.more c.loop-count.first c.first_other-first.result
      (take c.in-Ok.more c.read.new.buf) c.loop-count.invariant.read c.in-Ok.ensures.bytes.0 (sym c.in-Ok.ensures.bound.1) c.first_other-first.ensures;
  portion = search rules;
}
