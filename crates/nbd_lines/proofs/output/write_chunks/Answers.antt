use Rattle.nbd_lines.proofs.{Common.{arith, ◌≡◌, ◌∙◌, err_from_is_err_and, enc, AppendsPrefix, made_line}, WrittenLineLemmas.{all_written, broken_line, each_fits, none_written, one_written, stopped_before}}
use Rattle.nbd_lines.proofs.output.write_chunks.Goals as goal

pub loop-message-init : goal.loop-message-init
loop-message-init g c = none_written made_line (g.W.Write.contents c.args.out.now) c.args.messages.now

pub returns-clause-ok : goal.returns-clause-ok
returns-clause-ok g c = all_written made_line (g.W.Write.contents c.args.out.now) (g.W.Write.contents c.loop-message.out) c.args.messages.now c.loop-message.message-index c.loop-message-test.false c.loop-message.invariant

pub returns-in_err-append-clause-err : goal.returns-in_err-append-clause-err
returns-in_err-append-clause-err g c = grind (arith, err_from_is_err_and, stopped_before)

pub append-requires : goal.append-requires
append-requires g c = each_fits _ c.args.messages.now c.requires c.loop-message.message-index c.message-item.result c.loop-message-test.true c.message-item.is

pub returns-in_err-write_chunk-clause-err : goal.returns-in_err-write_chunk-clause-err
returns-in_err-write_chunk-clause-err g c =
    let p = err_from_is_err_and c.from_residual-in_err-write_chunk.result c.from_residual-in_err-write_chunk.ensures.1 in
    let bytes : c.as_slice.result.now ≡ enc c.message-item.result = c.as_slice.ensures.value ∙ (rw c.clear.ensures.items at c.in_ok-append.ensures.ok) in
    let prefix : AppendsPrefix (g.W.Write.contents c.loop-message.out) (g.W.Write.contents c.write_chunk.new.out) (made_line c.message-item.result) = rw (bytes, c.side_of.ensures) at c.in_err-write_chunk.ensures.err in
    rw p.1 (broken_line made_line _ (g.W.Write.contents c.loop-message.out) _ c.args.messages.now c.loop-message.message-index c.message-item.result c.loop-message-test.true c.message-item.is c.loop-message.invariant prefix)

pub loop-message-preserved : goal.loop-message-preserved
loop-message-preserved g c = grind (arith, one_written)
