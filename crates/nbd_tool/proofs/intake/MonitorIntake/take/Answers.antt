use Rattle.nbd_tool.proofs.OverLemmas.{following_pushed, on_ok_of}
use Rattle.nbd_tool.proofs.intake.MonitorIntake.take.Goals as goal

pub returns : goal.returns
returns c =
    on_ok_of _ _ c.unless_memory.result c.unless_memory.ensures (λ some. λ profile capture f.
    following_pushed capture c.args.self.now c.push.new.self c.args.side c.args.piece.now c.push.result f c.push.ensures some)
