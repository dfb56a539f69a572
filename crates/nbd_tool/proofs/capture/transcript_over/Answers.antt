use Rattle.nbd_tool.proofs.{Common.{EndsIn, Follows, IsReported}, OverLemmas.{following_empty, of_err, of_ok}}
use Rattle.nbd_tool.proofs.capture.transcript_over.Goals as goal

pub push_all-requires : goal.push_all-requires
push_all-requires g c = (c.args.profile, following_empty c.args.profile c.of-monitor.result c.of-monitor.ensures)

pub finish-requires : goal.finish-requires
finish-requires g c =
    let over = c.in-Ok.ensures.over c.args.profile (following_empty c.args.profile c.of-monitor.result c.of-monitor.ensures) in
    (over.over.session, over.over.follows)

pub returns-in-Ok-clause-finish : goal.returns-in-Ok-clause-finish
returns-in-Ok-clause-finish g c =
    let over = c.in-Ok.ensures.over c.args.profile (following_empty c.args.profile c.of-monitor.result c.of-monitor.ensures) in
    let r = over.over.session in
    let f = over.over.follows in
    record {
      session = r;
      over = record { chunks = over.chunks; is_text = over.is_text; over = over.over.over };
      fault = c.finish.ensures.fault r f;
      report = of_ok (Follows c.push_all.new.intake) IsReported c.finish.result c.finish.ensures.report r f;
      wire = of_err (Follows c.push_all.new.intake) EndsIn c.finish.result c.finish.ensures.wire r f;
    }
