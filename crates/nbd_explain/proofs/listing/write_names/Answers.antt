use Rattle.nbd_explain.proofs.{Common.{◌∙◌, subst, AppendsNames}, NamedLemmas.{last_cause_over, named_over, told_cause_over}}
use Rattle.nbd_explain.proofs.listing.write_names.Goals as goal

pub returns-in_err-write_story-clause-cause : goal.returns-in_err-write_story-clause-cause
returns-in_err-write_story-clause-cause g c =
    told_cause_over _ c.args.session c.from_residual.result c.in_err-write_story.field-0.0
    c.from_residual.ensures.1 c.in_err-write_story.ensures.fault

pub returns-clause-written : goal.returns-clause-written
returns-clause-written g c =
    named_over c.args.session _ c.write_end.result (g.W.Write.contents c.args.out.now) (g.W.Write.contents c.write_story.new.out) (g.W.Write.contents c.write_end.new.out)
    c.into_messages-messages.ensures.run c.into_messages-messages.ensures.complete c.into_messages-messages.ensures.fault
    (subst (λ ms. AppendsNames ms (g.W.Write.contents c.args.out.now) (g.W.Write.contents c.write_story.new.out)) (c.as_slice.ensures.value ∙ c.into_messages-messages.ensures.messages) c.in_ok-write_story.ensures.appends) c.write_end.ensures.answer c.write_end.ensures.written

pub returns-clause-cause : goal.returns-clause-cause
returns-clause-cause g c = last_cause_over c.args.session _ _ _ c.write_end.result c.write_end.ensures.left
