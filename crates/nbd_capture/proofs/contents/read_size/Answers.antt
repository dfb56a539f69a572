use Rattle.nbd_capture.proofs.{Common.{arith, nothing}, ContentsLineLemmas.{loud, no_beginning, silent}, ContentsTextLemmas.{bad_line, line_seen, none_seen, shorter, short_text}}
use Rattle.nbd_capture.proofs.contents.read_size.Goals as goal

pub loop-line-init : goal.loop-line-init
loop-line-init c = record { seen = none_seen c.args.text.now; count = omega arith }

pub returns-in-None-clause-fault : goal.returns-in-None-clause-fault
returns-in-None-clause-fault c =
    bad_line c.args.text.now c.loop-line.rest.now c.in-Some.line.now c.in-Some.after.now c.loop-line.number nothing c.loop-line.invariant.seen c.in-Some.ensures.0 c.in-Some.ensures.1
    (no_beginning c.in-Some.line.now (loud c.is_silent.result c.in-Some.line.now c.if-not-is_silent.true c.is_silent.ensures) c.in-None.ensures)

pub returns-in-Some-size_on-clause-read : goal.returns-in-Some-size_on-clause-read
returns-in-Some-size_on-clause-read c = grind (arith, line_seen)

pub returns-in-Some-size_on-clause-counted : goal.returns-in-Some-size_on-clause-counted
returns-in-Some-size_on-clause-counted c = grind (arith, shorter)

pub loop-line-preserved : goal.loop-line-preserved
loop-line-preserved c = grind (arith, shorter, line_seen, silent)

pub returns-clause-fault : goal.returns-clause-fault
returns-clause-fault c = short_text c.args.text.now c.loop-line.rest.now c.loop-line.number nothing c.loop-line.invariant.seen c.in_default.ensures (λ bytes e is. cc is)
