use Rattle.nbd_tool.proofs.Common.{subst, IsReadAs, room_in}
use Rattle.nbd_tool.proofs.check.verdict_from.Goals as goal

pub returns-clause-verdict : goal.returns-clause-verdict
returns-clause-verdict g c = λ initial is_initial.
    let begun = c.in_ok-start.ensures.read initial is_initial in
    let is_read : IsReadAs (room_in c.args.finished) begun.initial c.in_ok-start.start = subst (λ n. IsReadAs n begun.initial c.in_ok-start.start) c.room_of.ensures begun.is_read in
    record {
      initial = begun.initial;
      is_known = begun.is_known;
      is_conclusion = c.in_ok-conclude_from.ensures.verdict begun.initial is_read;
      answers = λ items is_run reported. c.in_ok-conclude_from.ensures.answers begun.initial items is_read is_run reported;
    }
