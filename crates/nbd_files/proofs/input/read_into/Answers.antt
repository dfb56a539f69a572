use Rattle.nbd_files.proofs.{Common.{◌<◌, ◌+◌, sym, rules, arith, take}, InputLemmas.read_more}
use Rattle.nbd_files.proofs.input.read_into.Goals as goal

pub loop-count-preserved : goal.loop-count-preserved
loop-count-preserved g c =
    let more : c.args.room < c.loop-count.count + c.in-Ok.more = c.if-count-room.false in
    record {
      read = read_more (g.R.Read.remaining c.args.reader.now) (g.R.Read.remaining c.loop-count.reader) (g.R.Read.remaining c.read.new.self) c.loop-count.count c.in-Ok.more c.args.room _ (take c.in-Ok.more c.read.new.buf) _
          c.loop-count.invariant.read c.in-Ok.ensures.bytes.0 (sym c.in-Ok.ensures.bound.1)
          (λ l. absurd (omega (arith, more)));
      room = λ l. absurd (omega (arith, more));
      portion = search rules;
    }

pub loop-count-preserved-in-Continue-1 : goal.loop-count-preserved-in-Continue-1
loop-count-preserved-in-Continue-1 g c = record {
  read = read_more (g.R.Read.remaining c.args.reader.now) (g.R.Read.remaining c.loop-count.reader) (g.R.Read.remaining c.read.new.self) c.loop-count.count c.in-Ok.more c.args.room _ (take c.in-Ok.more c.read.new.buf) _
      c.loop-count.invariant.read c.in-Ok.ensures.bytes.0 (sym c.in-Ok.ensures.bound.1)
      (λ l. c.in_ok-extend_from_slice.ensures.items);
  room = search rules;
  portion = search rules;
}

pub returns-clause-full : goal.returns-clause-full
returns-clause-full g c = search rules
