use Rattle.nbd_tool.proofs.OverLemmas.{on_ok_of, over_pushed}
use Rattle.nbd_tool.proofs.intake.SessionIntake.take.Goals as goal

pub returns : goal.returns
returns c =
    on_ok_of _ _ c.unless_memory.result c.unless_memory.ensures (λ some. λ profile capture over.
    over_pushed capture c.args.self.now c.push.new.self c.args.side c.args.piece.now c.push.result over
    (record {
      profile = c.push.ensures.profile;
      added = c.push.ensures.added;
      unclosed = c.push.ensures.open;
      prefix = c.push.ensures.prefix;
      refused = c.push.ensures.refused;
      closed = c.push.ensures.closed;
      wire = c.push.ensures.wire;
    }) some)
