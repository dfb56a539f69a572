use Rattle.nbd_lines.proofs.{Common.{arith, ◌≡◌, ◌++◌, ◌∷◌, [], ap, ◌∙◌, err_from_is_err_and, line_feed, AppendsPrefix, shown_line}, WrittenLineLemmas.{all_written, broken_line, none_written, one_written, stopped_before}}
use Rattle.nbd_lines.proofs.output.show_by.Goals as goal

pub loop-message-init : goal.loop-message-init
loop-message-init g c = none_written shown_line (g.W.Write.contents c.args.out.now) c.args.messages.now

pub returns-clause-ok : goal.returns-clause-ok
returns-clause-ok g c = all_written shown_line (g.W.Write.contents c.args.out.now) (g.W.Write.contents c.loop-message.out) c.args.messages.now c.loop-message.message-index c.loop-message-test.false c.loop-message.invariant

pub returns-in_err-append_line-clause-err : goal.returns-in_err-append_line-clause-err
returns-in_err-append_line-clause-err g c = grind (arith, err_from_is_err_and, stopped_before)

pub returns-in_err-extend_from_slice-clause-err : goal.returns-in_err-extend_from_slice-clause-err
returns-in_err-extend_from_slice-clause-err g c = grind (arith, err_from_is_err_and, stopped_before)

pub returns-in_err-write_whole-clause-err : goal.returns-in_err-write_whole-clause-err
returns-in_err-write_whole-clause-err g c =
    let p = err_from_is_err_and c.from_residual-in_err-write_whole.result c.from_residual-in_err-write_whole.ensures.1 in
    let text : c.as_slice.result.now ≡ shown_line c.message-item.result = c.as_slice.ensures.value ∙ c.in_ok-extend_from_slice.ensures.items ∙ ap (λ l. l ++ line_feed ∷ []) (rw c.clear.ensures.items at c.in_ok-append_line.ensures.ok) in
    let prefix : AppendsPrefix (g.W.Write.contents c.loop-message.out) (g.W.Write.contents c.write_whole.new.out) (shown_line c.message-item.result) = rw text at c.in_err-write_whole.ensures.err in
    rw p.1 (broken_line shown_line _ (g.W.Write.contents c.loop-message.out) _ c.args.messages.now c.loop-message.message-index c.message-item.result c.loop-message-test.true c.message-item.is c.loop-message.invariant prefix)

pub loop-message-preserved : goal.loop-message-preserved
loop-message-preserved g c = grind (arith, one_written)
