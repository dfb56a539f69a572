use Rattle.nbd_tool.proofs.{Common.{IsOverText, IsCaptureCause, IsWithinLimit}, OverLemmas.{joined, joined_err, joined_on, on_ok_of, over_empty}}
use Rattle.nbd_tool.proofs.capture.session_over.Goals as goal

pub push_all-requires : goal.push_all-requires
push_all-requires g c = (c.args.profile, over_empty c.args.profile c.of-session.result c.of-session.ensures)

pub returns-clause-over : goal.returns-clause-over
returns-clause-over g c =
    joined (IsOverText c.args.profile (g.C.Read.remaining c.args.capture)) c.push_all.result c.push_all.new.intake c.and.result c.and.ensures
    (on_ok_of _ (IsOverText c.args.profile (g.C.Read.remaining c.args.capture) c.push_all.new.intake) c.push_all.result c.push_all.ensures.over (λ all.
    let over = all c.args.profile (over_empty c.args.profile c.of-session.result c.of-session.ensures) in
    record { chunks = over.chunks; is_text = over.is_text; over = over.over }))

pub returns-clause-limited : goal.returns-clause-limited
returns-clause-limited g c = joined_on (IsWithinLimit (g.C.Read.remaining c.args.capture)) c.push_all.result c.push_all.new.intake c.and.result c.and.ensures c.push_all.ensures.limited

pub returns-clause-cause : goal.returns-clause-cause
returns-clause-cause g c = joined_err (IsCaptureCause (g.C.Read.remaining c.args.capture)) c.push_all.result c.push_all.new.intake c.and.result c.and.ensures c.push_all.ensures.cause
