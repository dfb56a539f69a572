use Rattle.nbd_judge.proofs.{Common.{◌++◌, length, sym, ◌∙◌, ap, arith, take, take_all, flat, side_pairs, IsFaultOf, records_of}, verdicts.{ChunkLemmas.{finish_told, prefix_more, handed_on, piece_fits}, RefusalLemmas.{fault_in, finish_fault}}}
use Rattle.nbd_judge.proofs.checking.session_over.Goals as goal

pub push-requires : goal.push-requires
push-requires c =
    let fits = piece_fits c.args.chunks.now c.loop-side.side-index c.loop-side-item.result c.loop-side-test.true c.loop-side-item.is in
    let took = ap length c.loop-side.invariant.took in
    let len = ap length c.deref.ensures.value in
    omega arith

pub returns-in_err-push-clause-wire : goal.returns-in_err-push-clause-wire
returns-in_err-push-clause-wire c =
    handed_on c.from_residual.result c.in_err-push.field-0.0 (IsFaultOf c.args.profile (flat (records_of c.args.chunks.now))) c.from_residual.ensures.1
    (fault_in c.args.chunks.now c.loop-side.side-index c.loop-side-item.result c.deref.result.now c.loop-side.session c.push.new.self c.in_err-push.field-0.0
    c.loop-side-test.true c.loop-side-item.is c.deref.ensures.value (c.in_err-push.ensures.profile ∙ c.loop-side.invariant.profile) c.loop-side.invariant.took c.in_err-push.ensures.prefix
    (c.in_err-push.ensures.at c.loop-side.invariant.unclosed) c.in_err-push.ensures.wire)

pub loop-side-preserved : goal.loop-side-preserved
loop-side-preserved c = record {
  unclosed = c.in_ok-push.ensures.open;
  profile = c.in_ok-push.ensures.profile ∙ c.loop-side.invariant.profile;
  took = c.in_ok-push.ensures.added
      ∙ ap (λ ps. ps ++ side_pairs c.loop-side-item.result.0 c.deref.result.now) c.loop-side.invariant.took
      ∙ ap (λ bs. flat (records_of (take c.loop-side.side-index c.args.chunks.now)) ++ side_pairs c.loop-side-item.result.0 bs) c.deref.ensures.value
      ∙ sym (prefix_more c.args.chunks.now c.loop-side.side-index c.loop-side-item.result c.loop-side-test.true c.loop-side-item.is);
}

pub returns-clause-report : goal.returns-clause-report
returns-clause-report c =
    finish_told c.loop-side.session (flat (records_of c.args.chunks.now)) c.finish.result c.loop-side.invariant.profile
    (c.loop-side.invariant.took ∙ ap (λ cs. flat (records_of cs)) (take_all c.loop-side.side-index c.args.chunks.now (omega arith))) c.finish.ensures.report

pub returns-clause-wire : goal.returns-clause-wire
returns-clause-wire c =
    finish_fault c.loop-side.session (flat (records_of c.args.chunks.now)) c.finish.result c.loop-side.invariant.profile
    (c.loop-side.invariant.took ∙ ap (λ cs. flat (records_of cs)) (take_all c.loop-side.side-index c.args.chunks.now (omega arith))) c.finish.ensures.wire
